pub mod AllSpots
pub mod Beside
pub mod FirstPlaces
pub mod NamedFiles
pub mod NoneNamed
pub mod SpotsWithin
pub mod Unmarked
