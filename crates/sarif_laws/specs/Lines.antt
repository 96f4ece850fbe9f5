-- The lines of a string.
use Rattle.std.specs.Prelude.{ℕ, ◌==◌, List, count_by}

-- how many line feeds it has
abbrev pub lines_in : List ℕ → ℕ
lines_in text = count_by (λ b. b == 10) text
