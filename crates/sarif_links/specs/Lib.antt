pub mod Address
pub mod Template
