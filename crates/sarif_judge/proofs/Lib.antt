pub mod FirstFaults
pub mod Shards
pub mod ResourceFaults
