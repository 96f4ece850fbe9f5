-- Definitions for contracts within the crate, and for proofs. The merge theorem reaches none of them.
pub mod Marked
pub mod Rising
