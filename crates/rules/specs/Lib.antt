-- What is right: the definitions that every contract cites. Read them in this order.
pub mod Bytes
pub mod Numbers
pub mod Names
pub mod Records
pub mod Der
pub mod San
pub mod Subject
pub mod Constraints
pub mod Seen
pub mod Matching
pub mod Verdict
pub mod Listing
pub mod Viewer
pub mod Writing
