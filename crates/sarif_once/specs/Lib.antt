pub mod Internal
pub mod Once
