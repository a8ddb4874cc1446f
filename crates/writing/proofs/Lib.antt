pub mod Answers
pub mod Cutting
pub mod Walking
