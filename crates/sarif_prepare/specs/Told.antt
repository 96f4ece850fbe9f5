-- The findings of a merge: with a policy those of the results that its conditions report.
use Rattle.std.specs.Prelude.{true, not, List, [], ◌∷◌, Option, Some, None, filter, map, option_map, if◌then◌else◌}
use Rattle.std.specs.List.{cons_option}
use Rattle.serde_json.specs.Data.{Data}
use Rattle.sarif_conditions.specs.Decided.{impact_of}
use Rattle.sarif_conditions.specs.Judged.{Judged}
use Rattle.sarif_conditions.specs.declared.facts.PolicyFacts.{PolicyFacts}
use Rattle.sarif_counts.specs.Impacts.{is_hit}
use Rattle.sarif_counts.specs.declared.gate_verdict.Impact.{Impact}
use Rattle.sarif_deciding.specs.Matched.{Matched}
use Rattle.sarif_deciding.specs.Results.{results_in}
use Rattle.sarif_findings.specs.Reported.{is_among}
use Rattle.sarif_findings.specs.declared.finding.Finding.{Finding}
use Rattle.sarif_findings.specs.declared.reporting.Reporting.{Reporting}
use Rattle.sarif_findings.specs.declared.reporting.Show.{Show}
use Rattle.sarif_findings.specs.declared.reporting.Show.TheVariants.{All}
use Rattle.sarif_log.specs.LogBy.{runs_by}
use Rattle.sarif_log.specs.Told.{if_asked, told_by, told_of}
use Rattle.sarif_model.specs.declared.kinds.Level.TheVariants.{NoLevel}
use Rattle.sarif_options.specs.declared.policy.Policy.{Policy}
use Rattle.sarif_policy.specs.declared.condition.GateCondition.{GateCondition}
use Rattle.sarif_prepare.specs.Asked.{reporting_in}
use Rattle.sarif_prepare.specs.Kept.{change_in}
use Rattle.sarif_prepare.specs.Ruled.{decided_by, matched_in, policy_in}
use Rattle.sarif_prepare.specs.declared.asked.Asked.{Asked}
use Rattle.sarif_prepare.specs.declared.file_read.FileRead.{FileRead}
use Rattle.sarif_runs.specs.Placed.{Placed}

-- a policy by which each active result is a hit
abbrev pub any_policy : Policy
any_policy = record {
  fail_on = NoLevel;
  states = record { absent = true; fresh = true; unchanged = true; updated = true };
  max = 0;
}

-- the reports with these roots that show each active result
abbrev pub of_all : Reporting → Reporting
of_all reporting = record { policy = any_policy; show = All; roots = reporting.roots }

-- the active results
abbrev pub active_in : List Judged → List Judged
active_in rs = filter (λ r. not r.suppressed) rs

-- what each active result of the merge does to the gate, if a condition reports it
abbrev pub active_impacts : List GateCondition → Matched → List (Option Impact)
active_impacts cs m = map (impact_of cs (results_in cs m)) (active_in (results_in cs m))

-- what a reported result does to the gate, if it is shown
abbrev pub shown_by : Show → Option Impact → Option Impact
shown_by show None = None
shown_by show (Some impact) = if is_among show (is_hit impact) then Some impact else None

-- a finding with what its result does to the gate, if it is shown
abbrev pub with_impact : Option Impact → Finding → Option Finding
with_impact None found = None
with_impact (Some impact) found = Some (record found { impact = impact })

-- the findings among these that are shown, each with what it does to the gate
abbrev pub told_with : Show → List (Option Impact) → List Finding → List Finding
told_with show [] found = []
told_with show (impact ∷ impacts) [] = []
told_with show (impact ∷ impacts) (one ∷ found) =
    cons_option (with_impact (shown_by show impact) one) (told_with show impacts found)

-- the findings of the results that these conditions report and that are shown, among all results of these runs of a
-- merged log
abbrev pub told_ruled : List GateCondition → Matched → Reporting → List Data → List Finding
told_ruled cs m reporting runs =
    told_with reporting.show (active_impacts cs m) (told_of (Some (of_all reporting)) runs)

-- the findings of a merge, with a policy or without one
abbrev pub told_in : Option (List GateCondition) → Matched → Option Reporting → List Data
    → List Finding
told_in None m asked runs = told_by m.change asked runs
told_in (Some cs) m asked runs = if_asked asked (λ reporting. told_ruled cs m reporting runs)

-- ---- by what is read and requested

-- the merge of these input runs and baseline runs, as far as its policy is concerned
abbrev pub matched_for : FileRead → Asked → List Placed → List Placed → Matched
matched_for rules asked current baseline =
    matched_in asked.options.now.checks.matching rules.file.now (change_in rules) current baseline

-- what the gate says about the conditions, if there are some
abbrev pub ruled_for : FileRead → Asked → List Placed → List Placed → Option PolicyFacts
ruled_for rules asked current baseline =
    option_map (λ decided. decided.facts)
    (decided_by (policy_in rules) (matched_for rules asked current baseline))

-- the findings of that merge
abbrev pub told_for : FileRead → Asked → List Placed → List Placed → List Finding
told_for rules asked current baseline =
    told_in (policy_in rules) (matched_for rules asked current baseline) (reporting_in asked)
    (runs_by asked.options.now.checks.matching rules.file.now current baseline)
