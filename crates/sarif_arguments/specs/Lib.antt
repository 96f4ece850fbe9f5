pub mod File
pub mod Limits
pub mod Reading
pub mod Replaced
pub mod System
