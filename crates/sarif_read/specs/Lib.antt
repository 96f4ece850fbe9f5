pub mod Failed
pub mod Internal
pub mod Reading
pub mod Stripping
pub mod Unmarked
