pub mod Hiding
pub mod Internal
pub mod Known
pub mod Life
pub mod Merge
pub mod ReadBack
pub mod Renewed
