pub mod EqualParts
pub mod Evidence
pub mod Internal
pub mod Seen
pub mod State
