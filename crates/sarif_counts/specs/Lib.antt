pub mod CountOf
pub mod Counts
pub mod Gate
pub mod Hits
pub mod Impacts
pub mod Internal
pub mod Summary
pub mod Tally
