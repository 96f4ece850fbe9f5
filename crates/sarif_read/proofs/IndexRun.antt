-- A run that is made of its parts in an index.
use Rattle.std.proofs.Common.{◌≡◌, Bool, List, length, IsTrue, Ok, refl, sym, ap, ◌∙◌, codes, option_and_then}
use Rattle.std.proofs.lemmas.List.{length-map}
use Rattle.json.specs.Token.{Token}
use Rattle.serde_json.specs.Data.{Data, null, boolean, number, string, array, object}
use Rattle.serde_json.specs.Find.{get, as_array}
use Rattle.json_parts.specs.Indexed.{data_of}
use Rattle.json_parts.specs.Stripping.{stripped}
use Rattle.json_parts.specs.Without.{without_member}
use Rattle.json_parts.specs.Internal.Ordered.{IsOrdered}
use Rattle.json_parts.proofs.Stripped.{stripped-without, get-without_same}
use Rattle.sarif_read.specs.declared.listed.Listed.{Listed}
use Rattle.sarif_model.specs.Run.{results_of, elements_or_none}
use Rattle.sarif_read.specs.Internal.Bare.{bare, is_bare}
use Rattle.sarif_read.specs.Internal.Listed.{value_at, nodes_of, listed_member}
use Rattle.sarif_read.specs.Internal.Indexed.{with_member}
use Rattle.sarif_read.specs.Reading.{check_tool, check_external}
use Rattle.sarif_read.proofs.Beside.{bare_check_tool, bare_check_external}
use Rattle.sarif_read.proofs.RunOf.{listed_values, rebuilt, stripped_ordered}

bare_is : (tokens : List Token) (b : Data) → b ≡ stripped (without_member (codes "results") (data_of tokens)) → b ≡ bare (value_at tokens)
bare_is tokens b is = is ∙ stripped-without (codes "results") (data_of tokens)

pub tool_of_bare : (tokens : List Token) (b : Data) → b ≡ stripped (without_member (codes "results") (data_of tokens))
    → check_tool b ≡ check_tool (value_at tokens)
tool_of_bare tokens b is = ap check_tool (bare_is tokens b is) ∙ bare_check_tool (value_at tokens)

pub external_of_bare : (allow : Bool) (tokens : List Token) (b : Data) → b ≡ stripped (without_member (codes "results") (data_of tokens))
    → check_external allow b ≡ check_external allow (value_at tokens)
external_of_bare allow tokens b is = ap (check_external allow) (bare_is tokens b is) ∙ bare_check_external allow (value_at tokens)

-- what has a tool is an object
named : (d : Data) → check_tool d ≡ Ok tt → IsTrue (is_bare (bare d))
named null h = cc
named (boolean b) h = cc
named (number n) h = cc
named (string s) h = cc
named (array ds) h = cc
named (object ms) h = rw (get-without_same (codes "results") (object ms)) refl

pub bare_beside : (tokens : List Token) (b : Data) → b ≡ stripped (without_member (codes "results") (data_of tokens))
    → check_tool b ≡ Ok tt → IsTrue (is_bare b)
bare_beside tokens b is h =
    rw (bare_is tokens b is) (named (value_at tokens) (sym (tool_of_bare tokens b is) ∙ h))

pub count_listed : (listed : Listed) (d : Data) → listed_member listed ≡ get (codes "results") d → length (results_of d) ≡ length (nodes_of listed)
count_listed listed d is =
    sym (ap (λ found. length (elements_or_none (option_and_then as_array found))) is) ∙ ap length (listed_values listed) ∙ length-map (nodes_of listed) value_at

pub made_of : (tokens : List Token) (b : Data) (listed : Listed) → IsOrdered (data_of tokens)
    → b ≡ stripped (without_member (codes "results") (data_of tokens))
    → listed_member listed ≡ get (codes "results") (value_at tokens)
    → with_member (codes "results") (listed_member listed) b ≡ value_at tokens
made_of tokens b listed ordered is found =
    rw (found, bare_is tokens b is) (rebuilt (codes "results") (value_at tokens) (stripped_ordered (data_of tokens) ordered))

pub ruleset run_steps = (tool_of_bare, external_of_bare, bare_beside, count_listed, made_of)
