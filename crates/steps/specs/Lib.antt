-- A walk over the names of a certificate string, step by step.
pub mod Steps
pub mod Rows
pub mod Walks
pub mod GroupWalks
