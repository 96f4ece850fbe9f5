pub mod Internal
pub mod Numbers
