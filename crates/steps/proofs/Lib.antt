-- One law for each return of the code (Stepping), gathered in Laws; what a walk has left (Left).
pub mod Stepping
pub mod Left
pub mod Laws
