pub mod Issuers
pub mod Statements
pub mod Viewing
pub mod Writing
