-- Definitions for contracts within and between the crates, and for proofs. The merge theorem reaches none of them.
pub mod Copied
pub mod Prepared
pub mod Ruled
pub mod Side
pub mod Texts
pub mod Written
