-- Definitions for contracts within and between the crates, and for proofs. The merge theorem reaches none of them.
pub mod Diff
pub mod Lines
pub mod PastLimit
pub mod Pointer
