pub mod Draft
pub mod Header
pub mod Hunk
pub mod Lines
pub mod Name
pub mod Pieces
pub mod Reading
pub mod Words
