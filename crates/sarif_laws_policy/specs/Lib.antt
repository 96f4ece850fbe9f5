pub mod Accepted
pub mod HaveRecords
