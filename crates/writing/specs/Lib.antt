pub mod Refusals
pub mod Parts
pub mod Listed
