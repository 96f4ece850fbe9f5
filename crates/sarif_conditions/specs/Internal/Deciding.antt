-- What is decided condition by condition.
use Rattle.std.specs.Prelude.{ℕ, ◌+◌, Bool, false, not, ◌&&◌, ◌||◌, List, [], ◌∷◌, ◌++◌, Option, Some, None, map, min, nat_lt, if◌then◌else◌}
use Rattle.std.specs.List.{count_by}
use Rattle.sarif_counts.specs.declared.gate_verdict.Impact.{Impact}
use Rattle.sarif_options.specs.Policy.{is_listed}
use Rattle.sarif_policy.specs.Condition.{checks}
use Rattle.sarif_policy.specs.declared.condition.GateCondition.{GateCondition}
use Rattle.sarif_conditions.specs.Decided.{asks_if, impact_by, is_absent, is_hit, is_inside, is_known, is_reported, is_stopping, is_unchecked, unused_of}
use Rattle.sarif_conditions.specs.Facts.{facts_of_condition, most_unused, with_scope}
use Rattle.sarif_conditions.specs.declared.deciding.Deciding.{Deciding}
use Rattle.sarif_conditions.specs.declared.facts.ConditionFacts.{ConditionFacts}
use Rattle.sarif_conditions.specs.Judged.{Judged}
use Rattle.sarif_conditions.specs.declared.outcome.Outcome.{Outcome}
use Rattle.sarif_conditions.specs.declared.standing.Standing.{Standing}

-- ---- a condition and a result

-- what a condition decides about a result; `checked` says whether it checks it
abbrev pub outcome_if : Bool → GateCondition → Judged → Outcome
outcome_if checked c r = record {
  checked = checked;
  reported = not r.suppressed && checked && is_listed c.states r.state && is_inside c.diff r;
  hit = asks_if checked c r && is_listed c.states r.state && is_inside c.diff r;
  outside = asks_if checked c r && is_listed c.states r.state && not (is_inside c.diff r);
  gone = is_absent r.state && r.is_gone && asks_if checked c r;
}

abbrev pub outcome_of : GateCondition → Judged → Outcome
outcome_of c r = outcome_if (checks c r.found) c r

-- ---- a condition

-- how many hits it allows, by what it decides about each result
abbrev pub limit_by : GateCondition → List Outcome → ℕ
limit_by c os = c.max + (if c.ratchet then count_by (λ (o : Outcome). o.gone) os else 0)

abbrev pub hits_by : List Outcome → ℕ
hits_by os = count_by (λ (o : Outcome). o.hit) os

abbrev pub fails_by : GateCondition → List Outcome → Bool
fails_by c os = nat_lt (limit_by c os) (hits_by os)

abbrev pub facts_by : GateCondition → List Outcome → ConditionFacts
facts_by c os = record {
  name = c.name;
  hits = hits_by os;
  limit = limit_by c os;
  outside = with_scope c.diff (count_by (λ (o : Outcome). o.outside) os);
  fails = fails_by c os;
}

-- ---- a result

-- what is known about a result before any condition
abbrev pub standing_before : Judged → Standing
standing_before r = record {
  reported = false;
  hit = false;
  stops = false;
  known = false;
  unchecked = not r.suppressed && not (is_absent r.state);
}

-- what conditions decide about a result together
abbrev pub standing_of : List GateCondition → List Judged → Judged → Standing
standing_of cs rs r = record {
  reported = is_reported cs r;
  hit = is_hit cs r;
  stops = is_stopping cs rs r;
  known = is_known cs r;
  unchecked = is_unchecked cs r;
}

-- with what one condition more decides
abbrev pub with_outcome : Bool → Standing → Outcome → Standing
with_outcome failing s o = record {
  reported = s.reported || o.reported;
  hit = s.hit || o.hit;
  stops = s.stops || (failing && o.hit);
  known = s.known || (o.hit || o.outside);
  unchecked = s.unchecked && not o.checked;
}

abbrev pub with_outcomes : Bool → List Standing → List Outcome → List Standing
with_outcomes failing [] os = []
with_outcomes failing (s ∷ ss) [] = []
with_outcomes failing (s ∷ ss) (o ∷ os) = with_outcome failing s o ∷ with_outcomes failing ss os

abbrev pub impact_in : Standing → Option Impact
impact_in s = if s.reported then Some (impact_by s.stops s.hit) else None

-- ---- all conditions

-- what these conditions decide about the results
abbrev pub deciding_of : List GateCondition → List Judged → Deciding
deciding_of cs rs = record {
  standings = map (standing_of cs rs) rs;
  facts = map (facts_of_condition rs) cs;
  unused = min most_unused (unused_of cs rs);
}

-- with one condition more, by what it decides about each result, and how many of its filters are unused
abbrev pub with_condition : GateCondition → List Outcome → ℕ → Deciding → Deciding
with_condition c os unused d = record {
  standings = with_outcomes (fails_by c os) d.standings os;
  facts = d.facts ++ facts_by c os ∷ [];
  unused = min most_unused (d.unused + unused);
}
