-- The results of a merged log that are inside of a change, counted.
use Rattle.std.specs.Prelude.{ℕ, ◌+◌, Bool, not, List, [], ◌∷◌, Option, Some, None, filter, nat_lt, if◌then◌else◌}
use Rattle.serde_json.specs.Data.{Data}
use Rattle.serde_json.specs.View.{items_of}
use Rattle.sarif_model.specs.Run.{results_of}
use Rattle.sarif_model.specs.declared.kinds.Level.TheVariants.{NoLevel}
use Rattle.sarif_counts.specs.CountOf.{count_in, count_of}
use Rattle.sarif_counts.specs.Hits.{Count, hits_of}
use Rattle.sarif_counts.specs.declared.gate_verdict.Verdict.{Verdict}
use Rattle.sarif_counts.specs.declared.gate_verdict.Verdict.TheVariants.{Pass, Fail}
use Rattle.sarif_options.specs.declared.policy.Policy.{Policy}
use Rattle.sarif_scope.specs.Inside.{is_inside}
use Rattle.sarif_scope.specs.declared.gated.GatedChange.{GatedChange}

-- how many results of these runs a test keeps, which is given the run and the result
abbrev pub count_kept : (Data → Data → Bool) → List Data → Count
count_kept keeps [] state level suppressed = 0
count_kept keeps (run ∷ runs) state level suppressed =
    count_in (items_of (filter (keeps run) (results_of run))) state level suppressed
    + count_kept keeps runs state level suppressed

abbrev pub count_inside : GatedChange → List Data → Count
count_inside change runs = count_kept (is_inside change) runs

abbrev pub count_others : GatedChange → List Data → Count
count_others change runs = count_kept (λ run result. not (is_inside change run result)) runs

-- how many results of these runs would be hits without the change, and aren't
abbrev pub outside_of : GatedChange → Policy → List Data → ℕ
outside_of change policy runs = hits_of (count_others change runs) policy

-- the policy whose hits are the results that are reported
abbrev pub for_reports : Policy → Policy
for_reports policy = record policy { fail_on = NoLevel }

-- how many results of these runs would be reported without the change, and aren't
abbrev pub unreported_of : GatedChange → Policy → List Data → ℕ
unreported_of change policy runs = outside_of change (for_reports policy) runs

-- ---- with a change, or without one

-- the results that may be hits: with a change, those inside
abbrev pub count_by : Option GatedChange → List Data → Count
count_by None runs = count_of runs
count_by (Some change) runs = count_inside change runs

abbrev pub hits_by : Option GatedChange → Policy → List Data → ℕ
hits_by change policy runs = hits_of (count_by change runs) policy

-- the verdict on this many hits
abbrev pub verdict_on : ℕ → Policy → Verdict
verdict_on hits policy = if nat_lt policy.max hits then Fail else Pass

abbrev pub verdict_by : Option GatedChange → Policy → List Data → Verdict
verdict_by change policy runs = verdict_on (hits_by change policy runs) policy
