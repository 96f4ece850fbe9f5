-- Paths and rules in a page, which a line may break between their parts.
use Rattle.std.specs.Prelude.{ℕ, ◌+◌, Bool, false, ◌&&◌, ◌||◌, ◌==◌, List, [], ◌∷◌, ◌++◌, codes, chars, if◌then◌else◌}
use Rattle.sarif_findings.specs.Shown.{is_between}
use Rattle.sarif_shown.specs.Escaped.{page_char}

-- what a part ends with: `-`, `.`, `_`, `/` or `:`
abbrev pub ends_part : ℕ → Bool
ends_part c = c == 45 || (c == 46 || (c == 95 || (c == 47 || c == 58)))

abbrev pub is_small : ℕ → Bool
is_small c = is_between 97 122 c

abbrev pub is_capital : ℕ → Bool
is_capital c = is_between 65 90 c

abbrev pub break_if : Bool → List ℕ
break_if b = if b then codes "<wbr>" else []

-- a character, escaped, with a break after it if it ends a part, and before it if it is a capital after a small letter
abbrev pub broken_char : Bool → ℕ → List ℕ
broken_char small c = break_if (small && is_capital c) ++ (page_char c ++ break_if (ends_part c))

-- these characters; whether a small letter is before them
abbrev pub broken_after : Bool → List ℕ → List ℕ
broken_after small [] = []
broken_after small (c ∷ cs) = broken_char small c ++ broken_after (is_small c) cs

unfoldable pub broken : List ℕ → List ℕ
broken text = broken_after false (chars text)

-- how many breaks these characters have
abbrev pub breaks_after : Bool → List ℕ → ℕ
breaks_after small [] = 0
breaks_after small (c ∷ cs) =
    (if small && is_capital c then 1 else 0)
    + ((if ends_part c then 1 else 0) + breaks_after (is_small c) cs)

abbrev pub breaks_in : List ℕ → ℕ
breaks_in text = breaks_after false (chars text)
