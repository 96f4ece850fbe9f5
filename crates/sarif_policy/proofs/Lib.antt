pub mod DecimalLoops
pub mod DecimalOrder
pub mod FiltersRead
pub mod FromConditions
pub mod FromFilters
pub mod FromStates
pub mod LawsMore
