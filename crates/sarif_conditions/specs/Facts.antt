-- What a gate says about the conditions of a policy.
use Rattle.std.specs.Prelude.{ℕ, Bool, List, Option, Some, None, map, min, if◌then◌else◌}
use Rattle.std.specs.List.{list_any, count_by}
use Rattle.sarif_change.specs.declared.spots.Scope.{Scope}
use Rattle.sarif_counts.specs.declared.gate_verdict.Verdict.{Verdict}
use Rattle.sarif_counts.specs.declared.gate_verdict.Verdict.TheVariants.{Pass, Fail}
use Rattle.sarif_policy.specs.declared.condition.GateCondition.{GateCondition}
use Rattle.sarif_conditions.specs.Decided.{is_failing, hits_of, impact_of, is_hit, is_known, is_reported, limit_of, outside_of, unchecked_of, unused_of}
use Rattle.sarif_conditions.specs.declared.decided.Decided.{Decided}
use Rattle.sarif_conditions.specs.declared.facts.ConditionFacts.{ConditionFacts}
use Rattle.sarif_conditions.specs.declared.facts.PolicyFacts.{PolicyFacts}
use Rattle.sarif_conditions.specs.Judged.{Judged}

-- the number, if the condition has a scope
abbrev pub with_scope : Option Scope → ℕ → Option ℕ
with_scope None n = None
with_scope (Some scope) n = Some n

abbrev pub facts_of_condition : List Judged → GateCondition → ConditionFacts
facts_of_condition rs c = record {
  name = c.name;
  hits = hits_of c rs;
  limit = limit_of c rs;
  outside = with_scope c.diff (outside_of c rs);
  fails = is_failing rs c;
}

-- the greatest number of unused filters that the facts have
abbrev pub most_unused : ℕ
most_unused = 4294967295

abbrev pub facts_of : List GateCondition → List Judged → PolicyFacts
facts_of cs rs = record {
  conditions = map (facts_of_condition rs) cs;
  hits = count_by (is_hit cs) rs;
  reported = count_by (is_reported cs) rs;
  unchecked = unchecked_of cs rs;
  unused_filters = min most_unused (unused_of cs rs);
}

-- what the conditions decide: what the gate says, what each result does to it, and which results are hits, the `diff` of
-- each condition left aside
abbrev pub decided_of : List GateCondition → List Judged → Decided
decided_of cs rs = record {
  facts = facts_of cs rs;
  impacts = map (impact_of cs rs) rs;
  known = map (is_known cs) rs;
}

-- the verdict of a condition, and of a gate: fail exactly if a condition fails
abbrev pub verdict_if : Bool → Verdict
verdict_if failing = if failing then Fail else Pass

abbrev pub verdict_told : PolicyFacts → Verdict
verdict_told facts = verdict_if (list_any (λ (c : ConditionFacts). c.fails) facts.conditions)

-- how many conditions fail
abbrev pub failed_told : PolicyFacts → ℕ
failed_told facts = count_by (λ (c : ConditionFacts). c.fails) facts.conditions
