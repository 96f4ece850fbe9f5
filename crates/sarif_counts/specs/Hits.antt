-- The hits of the gate and its verdict. The gate is this project's own: SARIF has none.
use Rattle.std.specs.Prelude.{ℕ, ◌+◌, List, Bool, false, codes, nat_lt, if◌then◌else◌}
use Rattle.sarif_model.specs.Level.{is_at_least}
use Rattle.sarif_model.specs.declared.kinds.Level.{Level}
use Rattle.sarif_model.specs.declared.kinds.Level.TheVariants.{NoLevel, Note, Warning, Error}
use Rattle.sarif_model.specs.declared.kinds.State.{State}
use Rattle.sarif_model.specs.declared.kinds.State.TheVariants.{New, Unchanged, Updated, Absent}
use Rattle.sarif_options.specs.declared.policy.Policy.{Policy}
use Rattle.sarif_options.specs.Policy.{is_listed}
use Rattle.sarif_counts.specs.declared.gate_verdict.Verdict.{Verdict}
use Rattle.sarif_counts.specs.declared.gate_verdict.Verdict.TheVariants.{Pass, Fail}

-- how many results have a state and a level, and are suppressed (true) or active (false)
abbrev pub Count : Type 0
Count = State → Level → Bool → ℕ

-- n where it counts
abbrev pub count_if : Bool → ℕ → ℕ
count_if counts n = if counts then n else 0

-- the results of one state that are at or above a level
abbrev pub severe_of : (Level → ℕ) → Level → ℕ
severe_of active least =
    count_if (is_at_least least Error) (active Error)
    + count_if (is_at_least least Warning) (active Warning)
    + count_if (is_at_least least Note) (active Note)
    + count_if (is_at_least least NoLevel) (active NoLevel)

-- the hits of one state
abbrev pub hits_at : Count → Policy → State → ℕ
hits_at count policy state =
    count_if (is_listed policy.states state)
    (severe_of (λ level. count state level false) policy.fail_on)

-- the active results of a listed state whose level is at least that of the policy
abbrev pub hits_of : Count → Policy → ℕ
hits_of count policy =
    hits_at count policy New + hits_at count policy Unchanged
    + hits_at count policy Updated + hits_at count policy Absent

-- fail if there are more hits than the policy allows
abbrev pub verdict_of : Count → Policy → Verdict
verdict_of count policy = if nat_lt policy.max (hits_of count policy) then Fail else Pass

abbrev pub verdict_name : Verdict → List ℕ
verdict_name Pass = codes "pass"
verdict_name Fail = codes "fail"
