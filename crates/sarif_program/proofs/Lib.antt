pub mod Composed
pub mod Ended
pub mod Lost
pub mod Made
pub mod Quiet
pub mod Rising
pub mod Written
pub mod SameFacts
