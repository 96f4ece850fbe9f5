pub mod Elements
pub mod Guids
pub mod PutAgain
pub mod QuietFaults
pub mod ReadEach
pub mod SourceAnswers
