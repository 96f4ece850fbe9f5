-- Properties of what a terminal shows.
use Rattle.std.specs.Prelude.{ℕ, Bool, true, false, List, [], ◌∷◌, ◌==◌, if◌then◌else◌}

-- a string without its control sequences: each begins with ESC and ends with the next `m`; `within` says whether the
-- string begins within one
abbrev pub unstyled_from : Bool → List ℕ → List ℕ
unstyled_from within [] = []
unstyled_from true (c ∷ cs) = unstyled_from (if c == 109 then false else true) cs
unstyled_from false (c ∷ cs) = if c == 27 then unstyled_from true cs else c ∷ unstyled_from false cs

abbrev pub unstyled : List ℕ → List ℕ
unstyled text = unstyled_from false text
