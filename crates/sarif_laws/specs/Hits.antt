-- The hits of a merged log, as they are read from its results.
use Rattle.std.specs.Prelude.{Bool, false, not, ◌&&◌, ◌||◌, List, Option, Some, None}
use Rattle.serde_json.specs.Data.{Data}
use Rattle.sarif_model.specs.declared.kinds.Level.{Level}
use Rattle.sarif_model.specs.declared.kinds.State.{State}
use Rattle.sarif_model.specs.Members.{elements}
use Rattle.sarif_model.specs.Run.{is_absent_result}
use Rattle.sarif_options.specs.declared.policy.Policy.{Policy}
use Rattle.sarif_counts.specs.CountOf.{suppressions_in}
use Rattle.sarif_model.specs.Level.{is_at_least}
use Rattle.sarif_options.specs.Policy.{is_listed}
use Rattle.sarif_entries.specs.Matching.{is_empty}
use Rattle.sarif_findings.specs.Reported.{is_active, level_in, state_in}

-- the policy lists the state
abbrev pub lists : Policy → Option State → Bool
lists policy None = false
lists policy (Some state) = is_listed policy.states state

-- the level is at least that of the policy
abbrev pub fails_on : Policy → Option Level → Bool
fails_on policy None = false
fails_on policy (Some level) = is_at_least policy.fail_on level

-- a result is a hit: its state is listed, its level is high enough, and it is active
abbrev pub is_hit_in : Policy → Data → Bool
is_hit_in policy result =
    (lists policy (state_in result) && fails_on policy (level_in result)) && is_active result

-- the suppressions of a result, in order
abbrev pub suppressions_listed : Data → List Data
suppressions_listed result = elements (suppressions_in result)

-- a hit stays if it has suppressions or is absent: no entry can make it suppressed
abbrev pub stays_in : Policy → Data → Bool
stays_in policy result =
    is_hit_in policy result
    && (not (is_empty (suppressions_listed result)) || is_absent_result result)
