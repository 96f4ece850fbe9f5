-- Which lengths the names of a value's members have.
use Rattle.std.specs.Prelude.{◌≡◌, ℕ, Bool, false, List, None, length, min, slice_index_or}
use Rattle.serde_json.specs.Data.{Data}
use Rattle.serde_json.specs.Find.{get}

-- the number of the mark of a name: its length, but all lengths from 31 share one mark
abbrev pub mark_of : List ℕ → ℕ
mark_of name = min (length name) 31

-- no member has a name without a mark
abbrev pub AreMarked : List Bool → Data → Type 0
AreMarked marks d =
    (name : List ℕ) → slice_index_or marks (mark_of name) false ≡ false → get name d ≡ None
