-- Definitions for contracts within the crate, and for proofs.
pub mod Gone
pub mod Looked
pub mod Rated
