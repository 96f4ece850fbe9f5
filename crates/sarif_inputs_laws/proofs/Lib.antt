pub mod Ignored
pub mod Parts
pub mod Renumbered
pub mod Sources
pub mod Unused
