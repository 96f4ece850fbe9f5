-- Properties of reports with a policy: of findings of the results that its conditions report.
use Rattle.std.specs.Prelude.{◌≡◌, Bool, true, false, List, map}
use Rattle.std.specs.List.{filter, filter_map}
use Rattle.sarif_conditions.specs.Decided.{impact_of}
use Rattle.sarif_conditions.specs.Judged.{Judged}
use Rattle.sarif_counts.specs.Impacts.{is_hit}
use Rattle.sarif_counts.specs.declared.gate_verdict.Impact.{Impact}
use Rattle.sarif_counts.specs.declared.gate_verdict.Verdict.{Verdict}
use Rattle.sarif_counts.specs.declared.gate_verdict.Verdict.TheVariants.{Pass, Fail}
use Rattle.sarif_findings.specs.Reported.{is_among}
use Rattle.sarif_findings.specs.declared.finding.Finding.{Finding}
use Rattle.sarif_findings.specs.declared.reporting.Show.{Show}
use Rattle.sarif_policy.specs.declared.condition.GateCondition.{GateCondition}

-- what the reported ones of these results do to the gate, in their order
abbrev pub reported_impacts : List GateCondition → List Judged → List Impact
reported_impacts cs rs = filter_map (impact_of cs rs) rs

-- what the shown ones do: all of them, or the hits
abbrev pub shown_impacts : Show → List GateCondition → List Judged → List Impact
shown_impacts show cs rs = filter (λ impact. is_among show (is_hit impact)) (reported_impacts cs rs)

-- the findings are those of the shown results, and each says what its result does to the gate
abbrev pub AreRuled : Show → List GateCondition → List Judged → List Finding → Type 0
AreRuled show cs rs findings =
    map (λ (f : Finding). f.impact) findings ≡ shown_impacts show cs rs

abbrev pub is_fail : Verdict → Bool
is_fail Fail = true
is_fail Pass = false
