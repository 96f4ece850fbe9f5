-- Definitions for contracts within and between the crates, and for proofs. The merge theorem reaches none of them.
pub mod Bare
pub mod Indexed
pub mod Listed
pub mod Picked
pub mod ReadMessage
pub mod ReadRefusal
