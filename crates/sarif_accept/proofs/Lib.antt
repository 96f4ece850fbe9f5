mod Among
pub mod AskedOnce
pub mod CheckedList
pub mod EachCondition
pub mod EntryRead
pub mod EveryRow
pub mod FileText
pub mod Flags
pub mod HeardMore
pub mod LineWidths
pub mod Lines
mod NamedBy
pub mod Newline
pub mod NoFraction
pub mod RenewedFile
pub mod Rows
pub mod Shallow
pub mod Staying
pub mod Taken
pub mod Weight
