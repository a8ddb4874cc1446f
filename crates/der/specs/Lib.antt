-- What is read from parts of a slice, as places in it.
pub mod Places
pub mod Reads
pub mod Runs
