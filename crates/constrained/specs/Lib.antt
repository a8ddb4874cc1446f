-- What the functions of this crate answer.
pub mod Subtrees
pub mod Breaches
pub mod Facts
pub mod Walks
