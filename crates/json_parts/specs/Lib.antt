pub mod Indexed
pub mod Internal
pub mod Laws
pub mod Mark
pub mod Stripping
pub mod Without
