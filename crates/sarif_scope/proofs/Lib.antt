pub mod FilesMore
pub mod GateOfChange
pub mod HitsMore
pub mod TextEnds
