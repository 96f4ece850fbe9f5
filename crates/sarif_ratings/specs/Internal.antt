-- Definitions for contracts within the crate, and for proofs.
pub mod Listed
pub mod Tables
