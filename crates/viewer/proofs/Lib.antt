-- One law for each return and each turn of the loop (Finding), gathered in Laws; a viewer that is stepped many times (Steps).
pub mod Finding
pub mod Laws
pub mod Steps
