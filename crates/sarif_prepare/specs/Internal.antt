-- Definitions for contracts within and between the crates, and for proofs. The merge theorem reaches none of them.
pub mod Apart
pub mod Baselines
pub mod Halves
pub mod Impacts
pub mod Keeping
pub mod LeftParts
pub mod Leftover
pub mod Limiting
pub mod Marked
pub mod Marking
pub mod Outside
pub mod Ruling
pub mod Telling
pub mod Together
pub mod Woven
