pub mod Views
pub mod Refusing
mod Laws
