-- Definitions for contracts within and between the crates, and for proofs. The merge theorem reaches none of them.
pub mod ByFile
pub mod Groups
pub mod Lists
pub mod Rules
