-- The report for GitLab's code quality widget: the compact text of an array with one object a result.
use Rattle.std.specs.Prelude.{ℕ, Bool, true, false, ◌&&◌, List, [], ◌∷◌, ◌++◌, Option, Some, None, codes, bytes_eq, unwrap_or}
use Rattle.std.specs.List.{count_by}
use Rattle.hex.specs.Hex.{encode_lower}
use Rattle.sha2.specs.Sha256.{sha256}
use Rattle.serde_json.specs.Data.{Data, null, number, string, array, object, unsigned, Items, no_items, item, no_members, member}
use Rattle.serde_json.specs.Written.{compact_text}
use Rattle.sarif_model.specs.declared.kinds.Level.{Level}
use Rattle.sarif_model.specs.declared.kinds.Level.TheVariants.{NoLevel, Note, Warning, Error}
use Rattle.sarif_findings.specs.declared.finding.Finding.{Finding}

-- ---- the fingerprint

abbrev pub path_or_null : Option (List ℕ) → Data
path_or_null None = null
path_or_null (Some path) = string path

abbrev pub same_path : Option (List ℕ) → Option (List ℕ) → Bool
same_path None None = true
same_path None (Some path) = false
same_path (Some path) None = false
same_path (Some path) (Some other) = bytes_eq path other

-- whether two results have the same tool, rule, path and message
abbrev pub are_alike : Finding → Finding → Bool
are_alike f g =
    bytes_eq f.tool g.tool
    && (bytes_eq f.rule g.rule
    && (same_path f.path g.path && bytes_eq f.message g.message))

-- how many of the earlier results are like this one
abbrev pub rank_among : List Finding → Finding → ℕ
rank_among earlier finding = count_by (are_alike finding) earlier

-- [TOOL, RULE, PATH, MESSAGE, RANK]
unfoldable pub hashed_text : Finding → ℕ → List ℕ
hashed_text f rank =
    compact_text (array
    (item (string f.tool)
    (item (string f.rule)
    (item (path_or_null f.path)
    (item (string f.message)
    (item (number (unsigned rank)) no_items))))))

-- the strings to hash for these results, which follow the earlier ones
abbrev pub texts_after : List Finding → List Finding → List (List ℕ)
texts_after earlier [] = []
texts_after earlier (f ∷ fs) =
    hashed_text f (rank_among earlier f) ∷ texts_after (earlier ++ f ∷ []) fs

abbrev pub hashed_texts : List Finding → List (List ℕ)
hashed_texts findings = texts_after [] findings

-- the fingerprint of a result that comes after this many equal ones
abbrev pub mark_of : Finding → ℕ → List ℕ
mark_of f rank = encode_lower (sha256 (hashed_text f rank))

-- ---- the array

abbrev pub severity : Level → List ℕ
severity Error = codes "critical"
severity Warning = codes "major"
severity Note = codes "minor"
severity NoLevel = codes "info"

unfoldable pub or_unknown : List ℕ → List ℕ
or_unknown [] = codes "unknown"
or_unknown (b ∷ bs) = b ∷ bs

abbrev pub lines_of : Finding → Data
lines_of f = object (member (codes "begin") (number (unsigned (unwrap_or f.line 1))) no_members)

abbrev pub location_of : Finding → Data
location_of f =
    object (member (codes "lines") (lines_of f)
    (member (codes "path") (string (unwrap_or f.path (codes "unknown"))) no_members))

-- a result, by its fingerprint
unfoldable pub quality_of : Finding → List ℕ → Data
quality_of f mark =
    object (member (codes "check_name") (string (or_unknown f.rule))
    (member (codes "description") (string f.message)
    (member (codes "fingerprint") (string mark)
    (member (codes "location") (location_of f)
    (member (codes "severity") (string (severity f.level)) no_members)))))

-- these results, which follow the earlier ones
abbrev pub items_after : List Finding → List Finding → Items
items_after earlier [] = no_items
items_after earlier (f ∷ fs) =
    item (quality_of f (mark_of f (rank_among earlier f))) (items_after (earlier ++ f ∷ []) fs)

abbrev pub gitlab_of : List Finding → List ℕ
gitlab_of findings = compact_text (array (items_after [] findings))
