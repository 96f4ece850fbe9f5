pub mod Alike
pub mod EqualRecords
pub mod OneFinding
pub mod SameKeys
pub mod These
