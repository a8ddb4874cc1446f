pub mod Counting
pub mod Usual
pub mod Sides
pub mod Laws
