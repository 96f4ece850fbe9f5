-- Definitions for contracts within and between the crates, and for proofs. The merge theorem reaches none of them.
pub mod FirstLocation
pub mod Hashed
pub mod References
pub mod Refusal
pub mod SourceKind
