pub mod Allowed
pub mod SameRuns
pub mod SameResults
