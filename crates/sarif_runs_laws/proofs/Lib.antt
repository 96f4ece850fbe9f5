pub mod Fingerprints
pub mod Members
pub mod Runs
