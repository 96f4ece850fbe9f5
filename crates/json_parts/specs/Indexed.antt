-- What an indexed text holds: the value that its tokens begin with, as `serde_json` reads it.
use Rattle.std.specs.Prelude.{◌≡◌, ℕ, List, Option, Some, None, option_map, option_and_then, unwrap_or, if◌then◌else◌}
use Rattle.std.specs.Str.{is_utf8}
use Rattle.json.specs.Token.{Token}
use Rattle.json.specs.Json as json
use Rattle.json.specs.Json.{Json, value}
use Rattle.json.specs.Tree.{HasNumbers}
use Rattle.serde_json.specs.Data.{Data, null, Items, no_items, item}
use Rattle.serde_json.specs.Read.{of_json, max_depth, read}

-- the JSON value of UTF-8 bytes, nested at most `max_depth` deep
abbrev pub json_of : List ℕ → Option Data
json_of bytes = if is_utf8 bytes then read bytes else None

-- the value that the tokens begin with
unfoldable pub data_of : List Token → Data
data_of ts = unwrap_or (option_and_then (λ p. of_json p.0) (value max_depth ts)) null

-- the JSON value that the tokens begin with: a number is its string, and an object has each member of the document
unfoldable pub json_at : List Token → Json
json_at ts = unwrap_or (option_map (λ p. p.0) (value max_depth ts)) json.null

-- the tokens begin with a value that is read, nested at most `max_depth` deep, whose numbers are numbers of RFC 8259
abbrev pub IsReadable : List Token → Type 0
IsReadable ts =
    (j : Json) × (rest : List Token) × (d : Data)
    × (value max_depth ts ≡ Some (j, rest))
    × (of_json j ≡ Some d)
    × HasNumbers j

-- the first element of an array, if it has one
abbrev pub first_element : Items → Option Data
first_element no_items = None
first_element (item d ds) = Some d
