pub mod Condition
pub mod Decimal
pub mod Fault
pub mod File
pub mod Laws
pub mod Limits
pub mod Rating
pub mod Reading
