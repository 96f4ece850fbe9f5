pub mod Annotated
pub mod Drafts
pub mod Internal
