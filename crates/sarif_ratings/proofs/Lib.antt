pub mod FirstNumbers
pub mod OwnOr
pub mod RunsRated
