-- The strings of the report for GitLab.
use Rattle.std.specs.Prelude.{ℕ, Bool, not, ◌&&◌, ◌||◌, ◌==◌, nat_le, List, ◌++◌, codes, unwrap_or}
use Rattle.std.specs.Fmt.{decimal}
use Rattle.std.specs.BTreeMap as tree
use Rattle.std.specs.declared.cmp.Ordering.{Ordering}
use Rattle.std.specs.Ordering.{nat_cmp, ordering_then}
use Rattle.std.specs.Cmp.Lexicographic.{slice_cmp}
use Rattle.sha2.specs.Sha256.{sha256}
use Rattle.json.specs.Print.{quoted}
use Rattle.serde_json.specs.Written.{compact_text}
use Rattle.sarif_model.specs.declared.kinds.Level.{Level}
use Rattle.sarif_model.specs.Internal.Hashed.{first_bits}
use Rattle.sarif_findings.specs.declared.finding.Finding.{Finding}
use Rattle.sarif_reports.specs.declared.identities.Identity.{Identity}
use Rattle.sarif_reports.specs.GitlabReport.{or_unknown, path_or_null, severity}

-- whether a byte is written unchanged in a JSON string
abbrev pub stands_in_string : ℕ → Bool
stands_in_string b = nat_le 32 b && not (b == 34 || b == 92)

-- a string as JSON
unfoldable pub quoted_text : List ℕ → List ℕ
quoted_text text = quoted text

-- [TOOL,RULE,PATH,MESSAGE of a hashed string
unfoldable pub identity_of : Finding → List ℕ
identity_of f =
    codes "[" ++ (quoted_text f.tool
    ++ (codes "," ++ (quoted_text f.rule
    ++ (codes "," ++ (compact_text (path_or_null f.path)
    ++ (codes "," ++ quoted_text f.message))))))

-- ,RANK] of such a string
abbrev pub rank_text : ℕ → List ℕ
rank_text rank = codes "," ++ (decimal rank ++ codes "]")

-- the identity, and the hash for the first result with it
abbrev pub identity_with : Finding → Identity
identity_with f = record {
  text = identity_of f;
  first = sha256 (identity_of f ++ rank_text 0);
}

-- the number that an identity is looked up by: that of the first result with it
unfoldable pub number_of : List ℕ → ℕ
number_of identity = first_bits (sha256 (identity ++ rank_text 0))

-- by the number first
abbrev pub key_cmp : ℕ × List ℕ → ℕ × List ℕ → Ordering
key_cmp a b = ordering_then (nat_cmp a.0 b.0) (slice_cmp nat_cmp a.1 b.1)

-- how many results with this identity were counted
abbrev pub counted : tree.BTreeMap (ℕ × List ℕ) ℕ → List ℕ → ℕ
counted ranks identity = unwrap_or (tree.get key_cmp ranks (number_of identity, identity)) 0

unfoldable pub rule_text : Finding → List ℕ
rule_text f =
    (codes "{\"check_name\":" ++ quoted_text (or_unknown f.rule))
    ++ (codes ",\"description\":" ++ quoted_text f.message)

unfoldable pub location_text : Finding → List ℕ
location_text f =
    codes ",\"location\":{\"lines\":{\"begin\":" ++ (decimal (unwrap_or f.line 1)
    ++ (codes "},\"path\":" ++ (quoted_text (unwrap_or f.path (codes "unknown")) ++ codes "}")))

unfoldable pub severity_text : Level → List ℕ
severity_text level = (codes ",\"severity\":" ++ quoted_text (severity level)) ++ codes "}"
