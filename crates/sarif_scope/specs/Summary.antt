-- The table of counts that is printed after a merge whose gate is for one change: this project's own format.
use Rattle.std.specs.Prelude.{ℕ, List, ◌++◌, Option, Some, None, codes}
use Rattle.std.specs.Fmt.{decimal}
use Rattle.serde_json.specs.Data.{Data}
use Rattle.sarif_model.specs.declared.kinds.State.TheVariants.{New, Unchanged, Updated, Absent}
use Rattle.sarif_counts.specs.CountOf.{count_of}
use Rattle.sarif_counts.specs.Hits.{Count}
use Rattle.sarif_counts.specs.Summary.{gate_line, heading, name_column, newline, row_of, summary_of}
use Rattle.sarif_options.specs.declared.policy.Policy.{Policy}
use Rattle.sarif_scope.specs.Counted.{hits_by, verdict_on}
use Rattle.sarif_scope.specs.Gate.{facts_of}
use Rattle.sarif_scope.specs.declared.facts.ChangeFacts.{ChangeFacts}
use Rattle.sarif_scope.specs.declared.gated.GatedChange.{GatedChange}

abbrev pub diff_line : ChangeFacts → List ℕ
diff_line facts =
    codes "diff: files " ++ (decimal facts.files ++ (codes ", lines " ++ (decimal facts.lines
    ++ (codes ", outside " ++ (decimal facts.outside ++ newline)))))

-- the heading and the four states
abbrev pub table_of : Count → List ℕ
table_of count =
    heading ++ (row_of (name_column New) (count New)
    ++ (row_of (name_column Unchanged) (count Unchanged)
    ++ (row_of (name_column Updated) (count Updated)
    ++ row_of (name_column Absent) (count Absent))))

-- seven lines: the table of all results, the change, and the gate with this many hits inside
abbrev pub summary_of_change : Count → ℕ → ChangeFacts → Policy → List ℕ
summary_of_change count hits facts policy =
    table_of count ++ (diff_line facts ++ gate_line (verdict_on hits policy) hits policy.max)

-- the summary of a log whose results in these runs are counted, with a change or without one
abbrev pub summary_by : Option GatedChange → List Data → Policy → List ℕ
summary_by None runs policy = summary_of (count_of runs) policy
summary_by (Some change) runs policy =
    summary_of_change (count_of runs) (hits_by (Some change) policy runs)
    (facts_of change policy runs) policy
