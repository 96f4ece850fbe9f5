pub mod JustKnown
