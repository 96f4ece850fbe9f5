-- Definitions for contracts within the crate, and for proofs.
pub mod Deciding
pub mod Tried
