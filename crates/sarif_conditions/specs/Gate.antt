-- The gate object of a merged log whose gate has a policy: this project's own format.
use Rattle.std.specs.Prelude.{ℕ, List, Option, Some, None, map, codes}
use Rattle.serde_json.specs.Data.{Data, string, array, object, no_members, member}
use Rattle.serde_json.specs.View.{items_of}
use Rattle.sarif_counts.specs.Gate.{counts_data, whole_number}
use Rattle.sarif_counts.specs.Hits.{Count, verdict_name}
use Rattle.sarif_scope.specs.declared.facts.ChangeFacts.{ChangeFacts}
use Rattle.sarif_conditions.specs.Facts.{verdict_if, verdict_told}
use Rattle.sarif_conditions.specs.declared.facts.ConditionFacts.{ConditionFacts}
use Rattle.sarif_conditions.specs.declared.facts.PolicyFacts.{PolicyFacts}

-- a condition: with a scope, also how many results outside would be hits
abbrev pub condition_with : Option ℕ → ConditionFacts → Data
condition_with None c = object
    (member (codes "hits") (whole_number c.hits)
    (member (codes "limit") (whole_number c.limit)
    (member (codes "name") (string c.name)
    (member (codes "verdict") (string (verdict_name (verdict_if c.fails))) no_members))))
condition_with (Some outside) c = object
    (member (codes "hits") (whole_number c.hits)
    (member (codes "limit") (whole_number c.limit)
    (member (codes "name") (string c.name)
    (member (codes "outside") (whole_number outside)
    (member (codes "verdict") (string (verdict_name (verdict_if c.fails))) no_members)))))

abbrev pub condition_data : ConditionFacts → Data
condition_data c = condition_with c.outside c

abbrev pub conditions_data : List ConditionFacts → Data
conditions_data cs = array (items_of (map condition_data cs))

-- what a gate with a policy says about a change
abbrev pub change_data : ChangeFacts → Data
change_data change = object
    (member (codes "files") (whole_number change.files)
    (member (codes "lines") (whole_number change.lines) no_members))

-- the gate for these counts and facts, with a change or without one, and these numbers of runs without results and of
-- unused suppressions
abbrev pub gate_of_policy : Option ChangeFacts → Count → PolicyFacts → ℕ → ℕ → Data
gate_of_policy None count facts without unused = object
    (member (codes "conditions") (conditions_data facts.conditions)
    (member (codes "counts") (counts_data count)
    (member (codes "hits") (whole_number facts.hits)
    (member (codes "runsWithoutResults") (whole_number without)
    (member (codes "unchecked") (whole_number facts.unchecked)
    (member (codes "unusedFilters") (whole_number facts.unused_filters)
    (member (codes "unusedSuppressions") (whole_number unused)
    (member (codes "verdict") (string (verdict_name (verdict_told facts))) no_members))))))))
gate_of_policy (Some change) count facts without unused = object
    (member (codes "conditions") (conditions_data facts.conditions)
    (member (codes "counts") (counts_data count)
    (member (codes "diff") (change_data change)
    (member (codes "hits") (whole_number facts.hits)
    (member (codes "runsWithoutResults") (whole_number without)
    (member (codes "unchecked") (whole_number facts.unchecked)
    (member (codes "unusedFilters") (whole_number facts.unused_filters)
    (member (codes "unusedSuppressions") (whole_number unused)
    (member (codes "verdict") (string (verdict_name (verdict_told facts))) no_members)))))))))
