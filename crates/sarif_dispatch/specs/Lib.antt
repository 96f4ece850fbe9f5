pub mod Claims
pub mod Delivery
pub mod Ends
pub mod Hands
pub mod Limits
pub mod Senders
