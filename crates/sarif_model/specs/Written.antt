-- Parts of the JSON values that are written.
use Rattle.std.specs.Prelude.{ℕ, List, [], ◌∷◌, Option, Some, None}
use Rattle.serde_json.specs.Data.{Data, string, array, Members, no_members, member, put}
use Rattle.serde_json.specs.View.{items_of}

-- the name of a member, with its value if there is one
abbrev pub Row : Type 0
Row = List ℕ × Option Data

-- members, with one more if it has a value
abbrev pub with_value : List ℕ → Option Data → Members → Members
with_value name None ms = ms
with_value name (Some d) ms = put name d ms

-- strings under their names, in the order of the list
abbrev pub text_members : List (List ℕ × List ℕ) → Members
text_members [] = no_members
text_members (p ∷ ps) = member p.0 (string p.1) (text_members ps)

-- an array, unless it is empty
abbrev pub list_if_any : List Data → Option Data
list_if_any [] = None
list_if_any (d ∷ ds) = Some (array (items_of (d ∷ ds)))
