-- The suppressions that are written for the matching entries of a result (SARIF 2.1.0, suppression object).
use Rattle.std.specs.Prelude.{ℕ, List, [], ◌∷◌, ◌++◌, Option, Some, None, slice_get, if◌then◌else◌}
use Rattle.std.specs.List.{list_any}
use Rattle.serde_json.specs.Data.{Data}
use Rattle.sarif_model.specs.declared.record.Record.{Record}
use Rattle.sarif_entries.specs.declared.entry.Entry.{Entry}
use Rattle.sarif_entries.specs.File.{File}
use Rattle.sarif_entries.specs.Object.{object_of, is_object_of}
use Rattle.sarif_suppress.specs.Suppressing.{matching}

-- the list with the entry's object, unless it already contains an equal one
abbrev pub with_object : List Data → Entry → List Data
with_object list e = if list_any (is_object_of e) list then list else list ++ object_of e ∷ []

-- the list with the objects of entries in order, each unless the list already contains an equal one
abbrev pub with_objects : List Data → List Entry → List Data
with_objects list [] = list
with_objects list (e ∷ es) = with_objects (with_object list e) es

-- the suppressions of a current result: its own, unchanged, and then the objects of the matching entries in file
-- order, each only if no equal one comes before it
abbrev pub suppressions_of : List Data → File → Record → List Data
suppressions_of own file r = with_objects own (matching file r)

abbrev pub with_object_if : List Data → Option Entry → List Data
with_object_if list None = list
with_object_if list (Some e) = with_object list e

-- the list with the objects of the entries with these numbers, in that order
abbrev pub with_objects_at : List Data → List Entry → List ℕ → List Data
with_objects_at list entries [] = list
with_objects_at list entries (n ∷ ns) =
    with_objects_at (with_object_if list (slice_get entries n)) entries ns
