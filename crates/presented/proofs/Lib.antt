pub mod Entries
pub mod Sets
pub mod Lists
pub mod SetLists
pub mod Whole
mod Laws
