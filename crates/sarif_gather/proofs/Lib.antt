pub mod Endings
pub mod Gatherings
