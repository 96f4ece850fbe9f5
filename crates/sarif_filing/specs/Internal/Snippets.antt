-- The entries that are filed under a snippet: for each snippet without white space a table by their keys.
use Rattle.std.specs.Prelude.{ℕ, List, [], bytes_eq}
use Rattle.std.specs.Cmp.Lexicographic.{pointwise}
use Rattle.std.specs.List.{flat_map}
use Rattle.std.specs.Option.{option_map_or}
use Rattle.indexmap.specs.IndexMap.{IndexMap, get}
use Rattle.sarif_filing.specs.Numbers.{NumbersBy, numbers_at}

-- a table by keys for each snippet
abbrev pub Within : Type 0 → Type 0
Within S = IndexMap (List ℕ) (NumbersBy (List (List ℕ)) S) S

-- the numbers that the table has for a snippet and a key
abbrev pub numbers_within : {S : Type 0} → Within S → List ℕ → List (List ℕ) → List ℕ
numbers_within table snippet key =
    option_map_or (λ keyed. numbers_at (pointwise bytes_eq) keyed key) (get bytes_eq table snippet) []

-- the numbers that the table has for a snippet and one of these keys, in order
abbrev pub found_within : {S : Type 0} → Within S → List ℕ → List (List (List ℕ)) → List ℕ
found_within table snippet keys =
    option_map_or (λ keyed. flat_map (numbers_at (pointwise bytes_eq) keyed) keys)
    (get bytes_eq table snippet) []
