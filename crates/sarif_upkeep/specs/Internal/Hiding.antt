-- Which results the gate doesn't check, by the values in the code.
use Rattle.std.specs.Prelude.{ℕ, Bool, false, List, drop, get_or, Option, Some, None, option_map}
use Rattle.std.specs.Borrow.{Bor}
use Rattle.sarif_accept.specs.Choosing.{Marks}

-- the marks that are lent, if any are
abbrev pub lent : Option (Bor (List Bool)) → Marks
lent marks = option_map (λ b. b.now) marks

-- the result of that number is hidden
abbrev pub is_hidden_at : Marks → ℕ → Bool
is_hidden_at None i = false
is_hidden_at (Some hidden) i = get_or hidden i false

-- the marks of what is left of a list after the first n
abbrev pub marks_left : ℕ → Marks → Marks
marks_left n None = None
marks_left n (Some marks) = Some (drop n marks)
