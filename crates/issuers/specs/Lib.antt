pub mod Strings
pub mod FromC
