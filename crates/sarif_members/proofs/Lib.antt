pub mod AlikeMembers
pub mod FirstObject
pub mod Marked
pub mod NodeMembers
pub mod Pairs
pub mod Passed
pub mod Rising
