-- The known log: a baseline that has exactly what matching and states need of each result (SARIF 2.1.0, "sarifLog
-- object").
use Rattle.std.specs.Prelude.{◌≡◌, ◌<◌, ◌⊎◌, ℕ, List, [], ◌∷◌, ◌++◌, map, length, codes}
use Rattle.json.specs.Layout.{pretty}
use Rattle.json.specs.Tree.{json_tokens}
use Rattle.serde_json.specs.Data.{Data, string, array, object, no_members, member}
use Rattle.serde_json.specs.View.{items_of}
use Rattle.serde_json.specs.Written.{outline}
use Rattle.sarif_model.specs.declared.merge_fault.At.TheVariants.{Whole}
use Rattle.sarif_model.specs.declared.merge_fault.Cause.TheVariants.{TooLong}
use Rattle.sarif_model.specs.declared.merge_fault.MergeFault.{MergeFault}
use Rattle.sarif_model.specs.declared.merge_fault.Source.TheVariants.{Known}
use Rattle.sarif_model.specs.Limits.{most_bytes}
use Rattle.sarif_model.specs.MergeFault.{fault_at, out_of_memory}
use Rattle.sarif_known.specs.Chosen.{Chosen}
use Rattle.sarif_known.specs.KnownRun.{known_run}

-- the log with these runs
abbrev pub known_log : List Chosen → Data
known_log runs =
    object (member (codes "runs") (array (items_of (map known_run runs)))
    (member (codes "version") (string (codes "2.1.0")) no_members))

-- the text of a value without fractions, a line for each item and member, as `serde_json` lays it out
abbrev pub pretty_text : Data → List ℕ
pretty_text d = pretty (json_tokens (outline d))

-- the text of the known log, which ends with a newline
abbrev pub known_text : List Chosen → List ℕ
known_text runs = pretty_text (known_log runs) ++ 10 ∷ []

-- the rejection if the text is too long to be read again
abbrev pub too_long : MergeFault
too_long = fault_at (Whole Known) TooLong

-- why this text isn't there: memory ran out, or it is too long
abbrev pub IsLost : List ℕ → MergeFault → Type 0
IsLost text fault = (fault ≡ out_of_memory) ⊎ ((fault ≡ too_long) × (most_bytes < length text))
