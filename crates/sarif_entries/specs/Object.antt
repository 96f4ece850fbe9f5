-- The suppression that is written for an entry (SARIF 2.1.0, suppression object).
use Rattle.std.specs.Prelude.{ℕ, Bool, true, false, ◌&&◌, List, [], ◌∷◌, bytes_eq, codes}
use Rattle.std.specs.Option.{option_map_or}
use Rattle.serde_json.specs.Data.{Data, object, Members, no_members, member}
use Rattle.serde_json.specs.Find.{as_str, as_object}
use Rattle.sarif_model.specs.Status.{status_name}
use Rattle.sarif_model.specs.Written.{text_members}
use Rattle.sarif_entries.specs.declared.entry.Entry.{Entry}
use Rattle.sarif_entries.specs.Entries.{with_pair}

-- the members of an entry's object, each a string, in the order of their names
abbrev pub texts_of : Entry → List (List ℕ × List ℕ)
texts_of e =
    with_pair (codes "justification") e.justification
    ((codes "kind", codes "external") ∷ (codes "status", status_name e.status) ∷ [])

-- the object that is written for an entry: `kind`, which is `external`, `status`, and `justification` if there is
-- one
abbrev pub object_of : Entry → Data
object_of e = object (text_members (texts_of e))

abbrev pub is_string : List ℕ → Data → Bool
is_string text d = option_map_or (bytes_eq text) (as_str d) false

-- the members are exactly these strings
abbrev pub are_just : List (List ℕ × List ℕ) → Members → Bool
are_just [] no_members = true
are_just [] (member name d ms) = false
are_just (p ∷ ps) no_members = false
are_just (p ∷ ps) (member name d ms) = bytes_eq p.0 name && (is_string p.1 d && are_just ps ms)

-- the value is the entry's object
abbrev pub is_object_of : Entry → Data → Bool
is_object_of e d = option_map_or (are_just (texts_of e)) (as_object d) false
