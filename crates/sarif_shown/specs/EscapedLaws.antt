-- Properties of escaped strings, for any string of a log.
use Rattle.std.specs.Prelude.{ℕ, Bool, true, false, not, ◌&&◌, ◌||◌, ◌==◌, nat_eq, List, [], ◌∷◌, codes, if◌then◌else◌}
use Rattle.std.specs.List.{starts_with}
use Rattle.std.specs.Char.{is_ascii_digit}
use Rattle.sarif_shown.specs.Escaped.{is_mark}

-- ---- in a page

-- whether the string starts with one of the five entities
abbrev pub begins_entity : List ℕ → Bool
begins_entity bs =
    starts_with nat_eq bs (codes "&amp;")
    || (starts_with nat_eq bs (codes "&lt;")
    || (starts_with nat_eq bs (codes "&gt;")
    || (starts_with nat_eq bs (codes "&quot;")
    || starts_with nat_eq bs (codes "&#39;"))))

-- `<`, `>`, `"` and `'`
abbrev pub is_markup : ℕ → Bool
is_markup b = b == 60 || (b == 62 || (b == 34 || b == 39))

-- whether none of these occurs in it, and each `&` begins an entity
abbrev pub is_element_text : List ℕ → Bool
is_element_text [] = true
is_element_text (b ∷ bs) =
    not (is_markup b) && ((not (b == 38) || begins_entity (b ∷ bs)) && is_element_text bs)

-- ---- in Markdown

-- whether each mark is part of `&#N;`: read between two of these, after a `&`, and in the number
abbrev mutual
  pub has_no_mark : List ℕ → Bool
  has_no_mark [] = true
  has_no_mark (b ∷ bs) = if b == 38 then begins_number bs else (not (is_mark b) && has_no_mark bs)

  pub begins_number : List ℕ → Bool
  begins_number [] = false
  begins_number (b ∷ bs) = b == 35 && ends_number bs

  pub ends_number : List ℕ → Bool
  ends_number [] = false
  ends_number (b ∷ bs) = if b == 59 then has_no_mark bs else (is_ascii_digit b && ends_number bs)
