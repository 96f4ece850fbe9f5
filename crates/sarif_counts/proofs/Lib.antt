pub mod Carried
pub mod Columns
pub mod CountAppend
pub mod GateNumbers
pub mod Suppressed
