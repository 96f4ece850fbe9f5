pub mod DealSteps
pub mod Deliveries
pub mod HandSums
pub mod Places
pub mod Settlements
pub mod Tallies
pub mod TwoPosts
