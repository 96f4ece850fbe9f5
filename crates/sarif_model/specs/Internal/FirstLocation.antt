-- The first location of a result, as reports show it (SARIF 2.1.0, "result object", "locations property"). A member
-- of the wrong type is treated as missing.
use Rattle.std.specs.Prelude.{◌≡◌, ℕ, List, Option, codes, option_map, option_and_then}
use Rattle.serde_json.specs.Data.{Data}
use Rattle.serde_json.specs.Find.{get, as_str, as_array, as_number, as_u64}
use Rattle.sarif_model.specs.declared.first_location.FirstLocation.{FirstLocation}
use Rattle.sarif_model.specs.Members.{first_of}
use Rattle.sarif_model.specs.Run.{elements_or_none}

-- `locations[0]`
abbrev pub first_location : Data → Option Data
first_location result =
    first_of (elements_or_none (option_and_then as_array (get (codes "locations") result)))

-- `locations[0].physicalLocation`
abbrev pub first_physical : Data → Option Data
first_physical result =
    option_and_then (get (codes "physicalLocation")) (first_location result)

-- `locations[0].physicalLocation.artifactLocation`
abbrev pub first_artifact : Data → Option Data
first_artifact result = option_and_then (get (codes "artifactLocation")) (first_physical result)

-- `locations[0].physicalLocation.region`
abbrev pub first_region : Data → Option Data
first_region result = option_and_then (get (codes "region")) (first_physical result)

-- the string of that name
abbrev pub string_in : List ℕ → Option Data → Option (List ℕ)
string_in name found = option_and_then as_str (option_and_then (get name) found)

-- the integer of that name, which is at least 0
abbrev pub integer_in : List ℕ → Option Data → Option ℕ
integer_in name found =
    option_and_then as_u64 (option_and_then as_number (option_and_then (get name) found))

-- ---- what reports show of it

abbrev pub first_uri : Data → Option (List ℕ)
first_uri result = string_in (codes "uri") (first_artifact result)

abbrev pub first_index : Data → Option ℕ
first_index result = integer_in (codes "index") (first_artifact result)

abbrev pub first_line : Data → Option ℕ
first_line result = integer_in (codes "startLine") (first_region result)

abbrev pub first_column : Data → Option ℕ
first_column result = integer_in (codes "startColumn") (first_region result)

abbrev pub IsFirstLocation : FirstLocation → Data → Type 0
IsFirstLocation location result =
    (option_map (λ uri. uri.now) location.uri ≡ first_uri result)
    × (location.artifact ≡ first_index result)
    × (location.line ≡ first_line result)
    × (location.column ≡ first_column result)
