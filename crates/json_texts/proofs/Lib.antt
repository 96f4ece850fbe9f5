pub mod Again
pub mod Agree
pub mod Integers
pub mod Orders
pub mod Parts
pub mod Standing
pub mod Surrounding
pub mod Tokens
