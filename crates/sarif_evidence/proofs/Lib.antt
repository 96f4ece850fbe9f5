pub mod EqualLemmas
pub mod PackedLemmas
pub mod RisingLemmas
pub mod StateLemmas
