-- Definitions for contracts within and between the crates, and for proofs. The merge theorem reaches none of them.
pub mod ArtifactsOf
pub mod Brackets
pub mod CodeParts
pub mod RulesOf
pub mod ShownSoFar
pub mod SnippetsOf
pub mod Subject
pub mod Told
pub mod Unlinked
