pub mod Given
pub mod Leading
pub mod Left
pub mod Named
pub mod Plain
pub mod Texts
