-- The name of a rule, as reports show it next to its id (SARIF 2.1.0, "reportingDescriptor object", "name property",
-- "shortDescription property").
use Rattle.std.specs.Prelude.{ℕ, ◌==◌, false, ◌||◌, bytes_eq, List, Option, Some, None, length, map, chars, codes, option_and_then, encode_utf8_all, if◌then◌else◌}
use Rattle.std.specs.Option.{option_or}
use Rattle.serde_json.specs.Data.{Data}
use Rattle.serde_json.specs.Find.{get}
use Rattle.sarif_model.specs.Members.{text_in}
use Rattle.sarif_findings.specs.Shown.{kept, parted_signs, plain}

-- a string that isn't empty and isn't the id of the rule
abbrev pub unless_id : List ℕ → List ℕ → Option (List ℕ)
unless_id id text = if length text == 0 || bytes_eq text id then None else Some text

-- `shortDescription.text`
abbrev pub short_description : Data → Option (List ℕ)
short_description descriptor =
    option_and_then (text_in (codes "text")) (get (codes "shortDescription") descriptor)

-- the first of `name` and `shortDescription.text` that is such a string
abbrev pub name_in : List ℕ → Data → Option (List ℕ)
name_in id descriptor =
    option_or (option_and_then (unless_id id) (text_in (codes "name") descriptor))
    (option_and_then (unless_id id) (short_description descriptor))

-- the most characters of a shown name
abbrev pub most_of_name : ℕ
most_of_name = 100

-- a name as it is shown
abbrev pub shown_name : List ℕ → List ℕ
shown_name name =
    encode_utf8_all (kept most_of_name (parted_signs false (map plain (chars name))))
