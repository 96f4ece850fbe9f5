-- The gate object of a merged log whose gate is for one change: this project's own format.
use Rattle.std.specs.Prelude.{ℕ, List, Option, Some, None, codes}
use Rattle.serde_json.specs.Data.{Data, string, array, object, no_members, member}
use Rattle.serde_json.specs.View.{items_of}
use Rattle.sarif_model.specs.Level.{level_name}
use Rattle.sarif_counts.specs.CountOf.{count_of}
use Rattle.sarif_counts.specs.Gate.{counts_data, gate_of, listed_names, whole_number}
use Rattle.sarif_counts.specs.Hits.{Count, verdict_name}
use Rattle.sarif_change.specs.declared.spots.Scope.{Scope}
use Rattle.sarif_change.specs.declared.spots.Scope.TheVariants.{Lines, Files}
use Rattle.sarif_options.specs.declared.policy.Policy.{Policy}
use Rattle.sarif_scope.specs.Counted.{hits_by, outside_of, unreported_of, verdict_on}
use Rattle.sarif_scope.specs.declared.facts.ChangeFacts.{ChangeFacts}
use Rattle.sarif_scope.specs.declared.gated.GatedChange.{GatedChange}

abbrev pub scope_name : Scope → List ℕ
scope_name Lines = codes "lines"
scope_name Files = codes "files"

-- what a gate says about a change
abbrev pub diff_data : ChangeFacts → Data
diff_data facts = object
    (member (codes "files") (whole_number facts.files)
    (member (codes "lines") (whole_number facts.lines)
    (member (codes "outside") (whole_number facts.outside)
    (member (codes "scope") (string (scope_name facts.scope)) no_members))))

-- the gate for the counts of all results, and this many hits inside
abbrev pub gate_of_change : Count → ℕ → ChangeFacts → Policy → ℕ → ℕ → Data
gate_of_change count hits facts policy without unused = object
    (member (codes "counts") (counts_data count)
    (member (codes "diff") (diff_data facts)
    (member (codes "failOn") (string (level_name policy.fail_on))
    (member (codes "hits") (whole_number hits)
    (member (codes "max") (whole_number policy.max)
    (member (codes "runsWithoutResults") (whole_number without)
    (member (codes "states") (array (items_of (listed_names policy.states)))
    (member (codes "unusedSuppressions") (whole_number unused)
    (member (codes "verdict") (string (verdict_name (verdict_on hits policy)))
    no_members)))))))))

-- what the gate of a log with these runs says about a change
abbrev pub facts_of : GatedChange → Policy → List Data → ChangeFacts
facts_of change policy runs = record {
  files = change.files;
  lines = change.lines;
  outside = outside_of change policy runs;
  unreported = unreported_of change policy runs;
  scope = change.scope;
}

-- the gate of a log whose results in these runs are counted, with a change or without one
abbrev pub gate_by : Option GatedChange → List Data → Policy → ℕ → ℕ → Data
gate_by None runs policy without unused = gate_of (count_of runs) policy without unused
gate_by (Some change) runs policy without unused =
    gate_of_change (count_of runs) (hits_by (Some change) policy runs) (facts_of change policy runs)
    policy without unused
