-- The keys of the objects that a list has.
use Rattle.std.specs.Prelude.{◌≡◌, List}
use Rattle.std.specs.List.{list_any}
use Rattle.indexmap.specs.IndexSet.{IndexSet, contains}
use Rattle.serde_json.specs.Data.{Data}
use Rattle.sarif_entries.specs.declared.key.EntryKey.{EntryKey}
use Rattle.sarif_entries.specs.Internal.Keys.{has_key, same_key}

-- the set has the keys of those of the values that are objects of entries, and no others
abbrev pub HasKeysOf : {S : Type 0} → IndexSet EntryKey S → List Data → Type 0
HasKeysOf keys values = (q : EntryKey) → contains same_key keys q ≡ list_any (has_key q) values
