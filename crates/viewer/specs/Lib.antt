-- A viewer after an opening and after a step.
pub mod Viewers
