pub mod AcceptedHits
pub mod Currents
pub mod DecidedLaws
pub mod DecidingMore
pub mod PolicyWhole
pub mod TryingMore
