-- The numbers of entries that pass a test, put in order.
use Rattle.std.specs.Prelude.{ℕ, Bool, false, List, fold, slice_get}
use Rattle.std.specs.BTreeSet.{insert_key}
use Rattle.std.specs.Option.{option_map_or}
use Rattle.std.specs.Ordering.{nat_cmp}
use Rattle.sarif_entries.specs.declared.entry.Entry.{Entry}

-- the numbers of a list added to rising numbers, each once
abbrev pub with_numbers : List ℕ → List ℕ → List ℕ
with_numbers rising numbers = fold (insert_key nat_cmp) rising numbers

-- whether the entry with that number passes the test
abbrev pub passes_at : (Entry → Bool) → List Entry → ℕ → Bool
passes_at test entries n = option_map_or test (slice_get entries n) false
