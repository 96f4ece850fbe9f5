-- The results of a run as they are in an index.
use Rattle.std.specs.Prelude.{◌≡◌, ⊤, Bool, List, [], ◌∷◌, map, Option, Some, None}
use Rattle.json.specs.Token.{Token}
use Rattle.json_parts.specs.Indexed.{data_of}
use Rattle.json_parts.specs.Internal.Ordered.{IsOrdered}
use Rattle.json_parts.specs.Stripping.{stripped}
use Rattle.serde_json.specs.Data.{Data, null, array}
use Rattle.serde_json.specs.View.{items_of}
use Rattle.sarif_read.specs.Unmarked.{unmarked}
use Rattle.sarif_read.specs.declared.listed.Listed.{Listed}
use Rattle.sarif_read.specs.declared.listed.Listed.TheVariants.{Missing, Null, Array}

-- the value of an indexed text that begins with these tokens, stripped
abbrev pub value_at : List Token → Data
value_at tokens = stripped (data_of tokens)

-- the nodes of the results; if there is no array there are none
abbrev pub nodes_of : Listed → List (List Token)
nodes_of Missing = []
nodes_of Null = []
nodes_of (Array nodes) = nodes.items

-- the value at `results`
abbrev pub listed_member : Listed → Option Data
listed_member Missing = None
listed_member Null = Some null
listed_member (Array nodes) = Some (array (items_of (map value_at nodes.items)))

-- the same without its marked results
abbrev pub IsKept : List Bool → Listed → Listed → Type 0
IsKept marks Missing kept = kept ≡ Missing
IsKept marks Null kept = kept ≡ Null
IsKept marks (Array nodes) Missing = ⊥
IsKept marks (Array nodes) Null = ⊥
IsKept marks (Array nodes) (Array kept) = kept.items ≡ unmarked marks nodes.items

-- the names of each object's members rise, in each of these values
abbrev pub AreOrdered : List (List Token) → Type 0
AreOrdered [] = ⊤
AreOrdered (tokens ∷ rest) = IsOrdered (data_of tokens) × AreOrdered rest
