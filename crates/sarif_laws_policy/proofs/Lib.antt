pub mod AcceptedHits
pub mod ShownImpacts
pub mod TellingAll
