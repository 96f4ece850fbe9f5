pub mod Internal
pub mod Limited
pub mod Suppressing
pub mod Written
