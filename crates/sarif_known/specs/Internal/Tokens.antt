-- The tokens of a known log.
use Rattle.std.specs.Prelude.{ℕ, ◌+◌, List, [], ◌∷◌, ◌++◌, length, map, codes, Option, Some, None, option_map}
use Rattle.json.specs.Token.{Token, begin_object, end_object, begin_array, end_array, key, string, number, boolean, null, bad}
use Rattle.json.specs.Tree.{json_tokens}
use Rattle.serde_json.specs.Data.{Data, string as text}
use Rattle.serde_json.specs.Written.{outline}
use Rattle.sarif_model.specs.declared.record.Record.{Record}
use Rattle.sarif_model.specs.Written.{Row, list_if_any}
use Rattle.sarif_model.specs.Guid.{guid_text}
use Rattle.sarif_known.specs.KnownResult.{kind_unless_fail, level_if_fail, locations_for, region_for}
use Rattle.sarif_known.specs.KnownRun.{artifact_at, bases_alone, tool_named}
use Rattle.sarif_known.specs.KnownResult.{message_rows, object_from, suppression_for, texts_if_any, unless_empty}

abbrev pub data_tokens : Data → List Token
data_tokens d = json_tokens (outline d)

-- a member, where it has a value
abbrev pub value_tokens : List ℕ → Option Data → List Token
value_tokens name None = []
value_tokens name (Some d) = key name ∷ data_tokens d

-- the members of these rows, and then the rest
abbrev pub rows_then : List Row → List Token → List Token
rows_then [] rest = rest
rows_then (row ∷ rows) rest = value_tokens row.0 row.1 ++ rows_then rows rest

-- strings under their names
abbrev pub pairs_tokens : List (List ℕ × List ℕ) → List Token
pairs_tokens [] = []
pairs_tokens (p ∷ ps) = key p.0 ∷ (string p.1 ∷ pairs_tokens ps)

abbrev pub each_tokens : List Data → List Token
each_tokens [] = []
each_tokens (d ∷ ds) = data_tokens d ++ each_tokens ds

-- how many bytes a token has at least: those of its string, or one
abbrev pub own_bytes : Token → ℕ
own_bytes begin_object = 1
own_bytes end_object = 1
own_bytes begin_array = 1
own_bytes end_array = 1
own_bytes (key s) = length s
own_bytes (string s) = length s
own_bytes (number s) = length s
own_bytes (boolean b) = 1
own_bytes null = 1
own_bytes bad = 0

-- how many bytes tokens have at least
abbrev pub least_bytes : List Token → ℕ
least_bytes [] = 0
least_bytes (t ∷ ts) = own_bytes t + least_bytes ts

-- ---- parts of a result

-- a location up to the members of its artifact's location
abbrev pub opened : List Token
opened =
    key (codes "locations") ∷ begin_array ∷ begin_object
    ∷ key (codes "physicalLocation") ∷ begin_object ∷ key (codes "artifactLocation") ∷ begin_object ∷ []

-- the rest of it, with this region
abbrev pub closed : Option Data → List Token
closed region =
    end_object ∷ (value_tokens (codes "region") region ++ end_object ∷ end_object ∷ end_array ∷ [])

-- the members from `correlationGuid` to `locations`
abbrev pub first_tokens : Record → Option ℕ → List Token
first_tokens r artifact =
    value_tokens (codes "correlationGuid") (option_map (λ guid. text (guid_text guid)) r.guid)
    ++ (value_tokens (codes "fingerprints") (texts_if_any r.full)
    ++ (value_tokens (codes "kind") (kind_unless_fail r.kind)
    ++ (value_tokens (codes "level") (level_if_fail r.kind r.level)
    ++ value_tokens (codes "locations")
    (locations_for r.place (region_for r.region r.snippet) artifact))))

-- the members from `message` to `suppressions`
abbrev pub last_tokens : Record → List Token
last_tokens r =
    value_tokens (codes "message") (Some (object_from (message_rows r.message)))
    ++ (value_tokens (codes "partialFingerprints") (texts_if_any r.partial)
    ++ (value_tokens (codes "ruleId") (unless_empty r.rule_id)
    ++ value_tokens (codes "suppressions") (list_if_any (map suppression_for r.held))))

-- ---- parts of a run and of the log

-- a run up to its first result
abbrev pub run_opening : List Record → List Token
run_opening rs =
    begin_object
    ∷ (value_tokens (codes "artifacts") (list_if_any (map artifact_at (bases_alone rs)))
    ++ key (codes "results") ∷ begin_array ∷ [])

-- a run after its last result
abbrev pub run_closing : List ℕ → List Token
run_closing tool =
    end_array ∷ (value_tokens (codes "tool") (Some (tool_named tool)) ++ end_object ∷ [])

abbrev pub log_opening : List Token
log_opening = begin_object ∷ key (codes "runs") ∷ begin_array ∷ []

abbrev pub log_closing : List Token
log_closing =
    end_array ∷ (value_tokens (codes "version") (Some (text (codes "2.1.0"))) ++ end_object ∷ [])
