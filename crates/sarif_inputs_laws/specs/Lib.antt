pub mod Ignoring
pub mod Parts
