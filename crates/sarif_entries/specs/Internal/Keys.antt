-- The content of an entry's object, and which values have it.
use Rattle.std.specs.Prelude.{ℕ, Bool, false, List, [], ◌∷◌, Option, option_and_then, option_map, codes}
use Rattle.std.specs.Option.{option_map_or}
use Rattle.serde_json.specs.Data.{Data}
use Rattle.serde_json.specs.Find.{as_object}
use Rattle.sarif_model.specs.Status.{status_name, status_named}
use Rattle.sarif_model.specs.declared.kinds.Status.{Status}
use Rattle.sarif_model.specs.Members.{text_in}
use Rattle.sarif_entries.specs.contracts.key.EntryKeyPartialEq.TheImpl as derived
use Rattle.sarif_entries.specs.declared.key.EntryKey.{EntryKey}
use Rattle.sarif_entries.specs.Entries.{with_pair}
use Rattle.sarif_entries.specs.Object.{are_just}

-- the members of an object with that status and that justification, if any
abbrev pub texts_with : Status → Option (List ℕ) → List (List ℕ × List ℕ)
texts_with status justification =
    with_pair (codes "justification") justification
    ((codes "kind", codes "external") ∷ (codes "status", status_name status) ∷ [])

-- the value is that object
abbrev pub is_object_with : Status → Option (List ℕ) → Data → Bool
is_object_with status justification d =
    option_map_or (are_just (texts_with status justification)) (as_object d) false

abbrev pub justification_of : EntryKey → Option (List ℕ)
justification_of key = option_map (λ text. text.now) key.justification

-- the value is the object with that key
abbrev pub has_key : EntryKey → Data → Bool
has_key key d = is_object_with key.status (justification_of key) d

-- whether two keys are equal, part by part
abbrev pub same_key : EntryKey → EntryKey → Bool
same_key = derived.ghosts.eq

-- the status of that name
abbrev pub status_in : Data → Option Status
status_in d = option_and_then status_named (text_in (codes "status") d)
