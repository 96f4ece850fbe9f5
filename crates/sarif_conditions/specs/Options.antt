-- The options of the command line as one condition.
use Rattle.std.specs.Prelude.{ℕ, Bool, false, not, ◌&&◌, List, [], Option, None}
use Rattle.sarif_change.specs.declared.spots.Scope.{Scope}
use Rattle.sarif_options.specs.Policy.{are_hits, is_listed}
use Rattle.sarif_options.specs.declared.policy.Policy.{Policy}
use Rattle.sarif_policy.specs.declared.condition.GateCondition.{GateCondition}
use Rattle.sarif_conditions.specs.Decided.{is_inside}
use Rattle.sarif_conditions.specs.Judged.{Judged}

-- the condition with the level, the states and the limit of the options, and a scope if there is a diff
abbrev pub condition_of_options : List ℕ → Policy → Option Scope → GateCondition
condition_of_options name policy diff = record {
  name = name;
  level = policy.fail_on;
  states = policy.states;
  max = policy.max;
  ratchet = false;
  only = None;
  except = [];
  minimum = None;
  diff = diff;
}

-- the result is a hit of the options
abbrev pub is_hit_by_options : Policy → Option Scope → Judged → Bool
is_hit_by_options policy diff r =
    not r.suppressed && (are_hits policy r.state r.level && is_inside diff r)

-- the options report the result: it is active and inside, and has one of their states
abbrev pub is_reported_by_options : Policy → Option Scope → Judged → Bool
is_reported_by_options policy diff r =
    not r.suppressed && (is_listed policy.states r.state && is_inside diff r)
