-- Definitions for contracts within and between the crates, and for proofs. The merge theorem reaches none of them.
pub mod Fits
pub mod Named
pub mod Numbers
pub mod Paired
pub mod Progress
pub mod Queues
pub mod Side
pub mod Turned
