-- What the conditions of a policy decide about the results of a merge.
use Rattle.std.specs.Prelude.{ℕ, ◌+◌, Bool, true, false, not, ◌&&◌, List, [], ◌∷◌, ◌++◌, Option, Some, None, nat_lt, unwrap_or, if◌then◌else◌}
use Rattle.std.specs.List.{list_any, count_by, sum_by}
use Rattle.sarif_change.specs.declared.spots.Scope.{Scope}
use Rattle.sarif_change.specs.declared.spots.Scope.TheVariants.{Lines, Files}
use Rattle.sarif_counts.specs.declared.gate_verdict.Impact.{Impact}
use Rattle.sarif_counts.specs.declared.gate_verdict.Impact.TheVariants as impacts
use Rattle.sarif_counts.specs.declared.gate_verdict.Verdict.{Verdict}
use Rattle.sarif_counts.specs.declared.gate_verdict.Verdict.TheVariants.{Pass, Fail}
use Rattle.sarif_entries.specs.Matching.{matches}
use Rattle.sarif_entries.specs.declared.entry.Entry.{Entry}
use Rattle.sarif_model.specs.Level.{is_at_least}
use Rattle.sarif_model.specs.declared.kinds.State.{State}
use Rattle.sarif_model.specs.declared.kinds.State.TheVariants.{New, Unchanged, Updated, Absent}
use Rattle.sarif_model.specs.declared.record.Record.{Record}
use Rattle.sarif_options.specs.Policy.{is_listed}
use Rattle.sarif_policy.specs.Condition.{checks, meets}
use Rattle.sarif_policy.specs.declared.condition.GateCondition.{GateCondition}
use Rattle.sarif_policy.specs.declared.condition.Minimum.{Minimum}
use Rattle.sarif_policy.specs.declared.rating.Rating.{Rating}
use Rattle.sarif_conditions.specs.Judged.{Judged}

-- ---- one result

abbrev pub is_absent : State → Bool
is_absent New = false
is_absent Unchanged = false
is_absent Updated = false
is_absent Absent = true

abbrev pub meets_minimum : Option Minimum → Rating → Bool
meets_minimum None rating = true
meets_minimum (Some minimum) rating = meets minimum rating

abbrev pub is_inside : Option Scope → Judged → Bool
is_inside None r = true
is_inside (Some Lines) r = r.in_lines
is_inside (Some Files) r = r.in_files

-- the result is active, and it has a level and a rating that the condition requires; `checked` says whether the condition
-- checks it
abbrev pub asks_if : Bool → GateCondition → Judged → Bool
asks_if checked c r =
    not r.suppressed && checked
    && is_at_least c.level r.level && meets_minimum c.minimum r.rating

-- the condition checks the result, which is active and has a level and a rating that it requires
abbrev pub asks_for : GateCondition → Judged → Bool
asks_for c r = asks_if (checks c r.found) c r

-- the result is a hit of the condition, its `diff` left aside
abbrev pub would_hit : GateCondition → Judged → Bool
would_hit c r = asks_for c r && is_listed c.states r.state

-- the result is a hit of the condition
abbrev pub is_hit_of : GateCondition → Judged → Bool
is_hit_of c r = would_hit c r && is_inside c.diff r

-- the result would be a hit of the condition, if it was inside
abbrev pub is_outside_of : GateCondition → Judged → Bool
is_outside_of c r = would_hit c r && not (is_inside c.diff r)

-- the condition reports the result: it checks it, it is active and inside, and has one of the states
abbrev pub is_reported_by : GateCondition → Judged → Bool
is_reported_by c r =
    not r.suppressed && checks c r.found && is_listed c.states r.state && is_inside c.diff r

-- the result went away: it is absent, its tool was heard, it meets the conditions of no suppression entry, and it
-- is one of those that the condition requires
abbrev pub went_away : GateCondition → Judged → Bool
went_away c r = is_absent r.state && r.is_gone && asks_for c r

-- ---- one condition

abbrev pub hits_of : GateCondition → List Judged → ℕ
hits_of c rs = count_by (is_hit_of c) rs

abbrev pub growth_of : GateCondition → List Judged → ℕ
growth_of c rs = if c.ratchet then count_by (went_away c) rs else 0

-- how many hits it allows
abbrev pub limit_of : GateCondition → List Judged → ℕ
limit_of c rs = c.max + growth_of c rs

-- whether it has more hits than it allows
abbrev pub is_failing : List Judged → GateCondition → Bool
is_failing rs c = nat_lt (limit_of c rs) (hits_of c rs)

-- how many results would be its hits, if they were inside
abbrev pub outside_of : GateCondition → List Judged → ℕ
outside_of c rs = count_by (is_outside_of c) rs

-- its filters
abbrev pub filters_of : GateCondition → List Entry
filters_of c = unwrap_or c.only [] ++ c.except

-- ---- a policy

-- a hit of a condition
abbrev pub is_hit : List GateCondition → Judged → Bool
is_hit cs r = list_any (λ c. is_hit_of c r) cs

-- a hit of a condition that fails
abbrev pub is_stopping : List GateCondition → List Judged → Judged → Bool
is_stopping cs rs r = list_any (λ c. is_failing rs c && is_hit_of c r) cs

-- a hit, if each condition's `diff` is left aside
abbrev pub is_known : List GateCondition → Judged → Bool
is_known cs r = list_any (λ c. would_hit c r) cs

-- a result that a condition reports
abbrev pub is_reported : List GateCondition → Judged → Bool
is_reported cs r = list_any (λ c. is_reported_by c r) cs

-- what a result does to the gate, by whether it stops the change, and whether it is a hit
abbrev pub impact_by : Bool → Bool → Impact
impact_by true hit = impacts.Stops
impact_by false true = impacts.Hit
impact_by false false = impacts.None

-- what a reported result does to the gate; nothing of one that isn't reported
abbrev pub impact_of : List GateCondition → List Judged → Judged → Option Impact
impact_of cs rs r =
    if is_reported cs r then Some (impact_by (is_stopping cs rs r) (is_hit cs r)) else None

-- fail exactly if a condition fails
abbrev pub verdict_of : List GateCondition → List Judged → Verdict
verdict_of cs rs = if list_any (is_failing rs) cs then Fail else Pass

-- an active current result that no condition checks
abbrev pub is_unchecked : List GateCondition → Judged → Bool
is_unchecked cs r =
    not r.suppressed && not (is_absent r.state) && not (list_any (λ c. checks c r.found) cs)

abbrev pub unchecked_of : List GateCondition → List Judged → ℕ
unchecked_of cs rs = count_by (is_unchecked cs) rs

-- ---- filters

-- the current results
abbrev pub currents : List Judged → List Record
currents [] = []
currents (r ∷ rs) = if is_absent r.state then currents rs else r.found ∷ currents rs

-- a filter that matches no current result
abbrev pub is_unused : List Judged → Entry → Bool
is_unused rs e = not (list_any (λ found. matches None e found) (currents rs))

-- how many filters of a condition match no current result
abbrev pub unused_by : List Judged → GateCondition → ℕ
unused_by rs c = count_by (is_unused rs) (filters_of c)

-- how many filters of all conditions do
abbrev pub unused_of : List GateCondition → List Judged → ℕ
unused_of cs rs = sum_by (unused_by rs) cs
