-- Definitions for contracts within and between the crates, and for proofs. The merge theorem reaches none of them.
pub mod Allowing
pub mod Indexes
pub mod Parsed
pub mod ReadRun
pub mod ReadSoFar
pub mod Runs
pub mod Together
