-- Definitions for contracts within and between the crates, and for proofs. The merge theorem reaches none of them.
pub mod Admission
pub mod Marks
pub mod Numbers
pub mod Unseen
