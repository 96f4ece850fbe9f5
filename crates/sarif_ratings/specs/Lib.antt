pub mod Internal
pub mod Ratings
