-- The table of counts that is printed after a merge whose gate has a policy: this project's own format.
use Rattle.std.specs.Prelude.{ℕ, List, [], length, ◌++◌, Option, Some, None, codes}
use Rattle.std.specs.Fmt.{decimal}
use Rattle.std.specs.List.{flat_map}
use Rattle.sarif_counts.specs.Hits.{Count, verdict_name}
use Rattle.sarif_counts.specs.Summary.{newline}
use Rattle.sarif_scope.specs.Summary.{table_of}
use Rattle.sarif_scope.specs.declared.facts.ChangeFacts.{ChangeFacts}
use Rattle.sarif_conditions.specs.Facts.{failed_told, verdict_if, verdict_told}
use Rattle.sarif_conditions.specs.declared.facts.ConditionFacts.{ConditionFacts}
use Rattle.sarif_conditions.specs.declared.facts.PolicyFacts.{PolicyFacts}

-- the line on the change, if there is one
abbrev pub change_line : Option ChangeFacts → List ℕ
change_line None = []
change_line (Some change) =
    codes "diff: files " ++ (decimal change.files ++ (codes ", lines " ++ (decimal change.lines
    ++ newline)))

-- what a line on a condition ends with
abbrev pub outside_text : Option ℕ → List ℕ
outside_text None = newline
outside_text (Some outside) = codes ", outside " ++ (decimal outside ++ newline)

abbrev pub condition_line : ConditionFacts → List ℕ
condition_line c =
    codes "condition " ++ (c.name ++ (codes ": " ++ (verdict_name (verdict_if c.fails)
    ++ (codes ", hits " ++ (decimal c.hits ++ (codes ", limit " ++ (decimal c.limit
    ++ outside_text c.outside)))))))

-- the last line
abbrev pub policy_line : PolicyFacts → List ℕ
policy_line facts =
    codes "gate: " ++ (verdict_name (verdict_told facts) ++ (codes ", hits " ++ (decimal facts.hits
    ++ (codes ", conditions " ++ (decimal (length facts.conditions)
    ++ (codes ", failed " ++ (decimal (failed_told facts) ++ newline)))))))

-- the table of all results, the change, a line for each condition, and the gate
abbrev pub summary_of_policy : Option ChangeFacts → Count → PolicyFacts → List ℕ
summary_of_policy change count facts =
    table_of count ++ (change_line change
    ++ (flat_map condition_line facts.conditions ++ policy_line facts))
