pub mod AddressSigns
pub mod Encoded
pub mod Placed
pub mod ReadBack
pub mod Stripped
