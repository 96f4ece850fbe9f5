pub mod QuietReaders
pub mod ReadOnce
pub mod ReadersRead
