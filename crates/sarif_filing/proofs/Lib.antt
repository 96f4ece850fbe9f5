pub mod Beginnings
pub mod Begun
pub mod Candidates
pub mod Numbered
