pub mod Choice
pub mod Internal
