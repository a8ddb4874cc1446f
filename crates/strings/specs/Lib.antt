-- The three certificate strings as a loop meets them: counted, and walked name by name.
pub mod Counts
pub mod Runs
pub mod Usual
