-- Some of the members of a value.
use Rattle.std.specs.Prelude.{ℕ, List, [], ◌∷◌}
use Rattle.sarif_model.specs.Written.{with_value}
use Rattle.serde_json.specs.Data.{Data, object, Members, no_members}
use Rattle.serde_json.specs.Find.{get}

-- members, and those of these names that the value has
abbrev pub picked_onto : Members → List (List ℕ) → Data → Members
picked_onto ms [] d = ms
picked_onto ms (name ∷ names) d = picked_onto (with_value name (get name d) ms) names d

-- the members of these names that the value has
abbrev pub picked : List (List ℕ) → Data → Data
picked names d = object (picked_onto no_members names d)
