pub mod BareArtifacts
pub mod ChangeShared
pub mod ListedAsked
pub mod ResultsShared
pub mod RunsLooked
