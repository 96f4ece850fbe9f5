pub mod Internal
pub mod Key
pub mod KeyParts
pub mod Pairing
pub mod Partners
pub mod Tiers
