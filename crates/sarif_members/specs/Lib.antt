pub mod Fingerprints
pub mod Internal
pub mod OwnMembers
pub mod Regions
