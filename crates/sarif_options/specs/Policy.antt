-- Which results the gate may count. The gate is this project's own: SARIF has none.
use Rattle.std.specs.Prelude.{◌&&◌, Bool, true, false}
use Rattle.sarif_model.specs.Level.{is_at_least}
use Rattle.sarif_model.specs.declared.kinds.Level.{Level}
use Rattle.sarif_model.specs.declared.kinds.Level.TheVariants.{Error}
use Rattle.sarif_model.specs.declared.kinds.State.{State}
use Rattle.sarif_model.specs.declared.kinds.State.TheVariants.{New, Unchanged, Updated, Absent}
use Rattle.sarif_options.specs.declared.policy.States.{States}
use Rattle.sarif_options.specs.declared.policy.Policy.{Policy}

-- the default policy
abbrev pub default_policy : Policy
default_policy = record {
  fail_on = Error;
  states = record { absent = false; fresh = true; unchanged = false; updated = true };
  max = 0;
}

-- whether results of this state count
abbrev pub is_listed : States → State → Bool
is_listed states New = states.fresh
is_listed states Unchanged = states.unchanged
is_listed states Updated = states.updated
is_listed states Absent = states.absent

-- whether active results of this state and level are hits
abbrev pub are_hits : Policy → State → Level → Bool
are_hits policy state level =
    is_listed policy.states state && is_at_least policy.fail_on level
