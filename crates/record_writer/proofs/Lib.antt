pub mod Blank
pub mod Two
