pub mod Labels
pub mod Runs
pub use Rattle.rules.proofs.Free
mod Within
pub mod Folded
mod Pairs
mod Laws
