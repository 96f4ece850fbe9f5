pub mod Faults
pub mod Items
pub mod Lists
pub mod Marks
pub mod More
pub mod Parts
pub mod Spread
pub mod WovenLists
