-- Matches that can be counted from the other end.
use Rattle.std.specs.Prelude.{ℕ, ◌<◌, List, Option, IfSome}
use Rattle.std.specs.List.{AllByRecursion}

-- each match is one of `count` baseline results
abbrev pub AreBelow : ℕ → List (Option ℕ) → Type 0
AreBelow count partners = AllByRecursion (λ partner. IfSome partner (λ j. j < count)) partners
