-- A gate object that becomes that of a gate for one change.
use Rattle.std.specs.Prelude.{ℕ, codes}
use Rattle.serde_json.specs.Data.{Data, null, boolean, number, string, array, object, put}
use Rattle.sarif_counts.specs.Gate.{whole_number}
use Rattle.sarif_counts.specs.Hits.{verdict_name}
use Rattle.sarif_counts.specs.declared.gate_verdict.Verdict.{Verdict}
use Rattle.sarif_scope.specs.Gate.{diff_data}
use Rattle.sarif_scope.specs.declared.facts.ChangeFacts.{ChangeFacts}

-- with these facts, hits and this verdict; a value that is not an object is unchanged
abbrev pub narrowed : ChangeFacts → ℕ → Verdict → Data → Data
narrowed facts hits verdict null = null
narrowed facts hits verdict (boolean b) = boolean b
narrowed facts hits verdict (number n) = number n
narrowed facts hits verdict (string s) = string s
narrowed facts hits verdict (array ds) = array ds
narrowed facts hits verdict (object ms) =
    object (put (codes "verdict") (string (verdict_name verdict))
    (put (codes "hits") (whole_number hits) (put (codes "diff") (diff_data facts) ms)))
