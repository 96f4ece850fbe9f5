pub mod GoneTests
pub mod Lengths
pub mod RatedHere
pub mod SideBySide
pub mod Unmarked
