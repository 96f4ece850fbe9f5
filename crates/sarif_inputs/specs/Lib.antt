pub mod ChangeIn
pub mod Faults
pub mod Inputs
pub mod Internal
pub mod PolicyIn
pub mod Snippets
pub mod SourceFaults
