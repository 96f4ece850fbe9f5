pub mod Counted
pub mod Files
pub mod Gate
pub mod Inside
pub mod Internal
pub mod Reading
pub mod Summary
pub mod Told
