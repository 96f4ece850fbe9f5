pub mod BarePartners
pub mod BareRecords
pub mod JustKnown
pub mod NamesKept
pub mod Readable
pub mod RegionRead
pub mod Rising
pub mod SamePartners
