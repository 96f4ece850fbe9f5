pub mod AnyOrder
pub mod ByTool
pub mod FromEnd
pub mod Hidden
pub mod Leaving
pub mod SameFinding
