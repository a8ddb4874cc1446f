pub mod Walks
pub mod Meeting
pub mod Parts
pub mod Groups
pub mod Permission
pub mod Entry
pub mod Strings
