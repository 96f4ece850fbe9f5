pub mod Asked
pub mod Internal
pub mod Matched
pub mod Merge
pub mod Present
pub mod Results
pub mod Ruling
