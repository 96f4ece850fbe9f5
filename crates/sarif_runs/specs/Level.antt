-- The effective level of a result (SARIF 2.1.0, "level property").
use Rattle.std.specs.Prelude.{ℕ, Bool, true, false, List, [], find, slice_get, Option, Some, None, Result, Ok, option_and_then}
use Rattle.std.specs.Option.{ok_or}
use Rattle.sarif_model.specs.declared.kinds.Level.{Level}
use Rattle.sarif_model.specs.declared.kinds.Level.TheVariants.{NoLevel, Warning}
use Rattle.sarif_model.specs.declared.kinds.Kind.{Kind}
use Rattle.sarif_model.specs.declared.kinds.Kind.TheVariants.{Pass, Undecided, Informational, NotApplicable, Review, Fail}
use Rattle.sarif_model.specs.declared.fault.Fault.{Fault}
use Rattle.sarif_model.specs.declared.fault.Fault.TheVariants.{BadIndex}
use Rattle.sarif_members.specs.declared.parts.Parts.{Parts}
use Rattle.sarif_model.specs.Members.{◌>>=◌, result_map}
use Rattle.sarif_runs.specs.declared.component.Descriptor.{Descriptor}
use Rattle.sarif_runs.specs.declared.component.Rule.{Rule}
use Rattle.sarif_runs.specs.declared.invocation.Override.{Override}
use Rattle.sarif_runs.specs.declared.head.RunHead.{RunHead}
use Rattle.sarif_runs.specs.Descriptor.{reference_of, descriptor_of}
use Rattle.sarif_runs.specs.Overrides.{specifies}

abbrev pub is_fail : Kind → Bool
is_fail Pass = false
is_fail Undecided = false
is_fail Informational = false
is_fail NotApplicable = false
is_fail Review = false
is_fail Fail = true

-- The first that applies: none where the kind isn't fail; the result's own level; that of the first override that
-- specifies its rule; the rule's default; warning.
abbrev pub first_level : Bool → Option Level → Option Level → Option Level → Level
first_level false own overriding default = NoLevel
first_level true (Some level) overriding default = level
first_level true None (Some level) default = level
first_level true None None (Some level) = level
first_level true None None None = Warning

-- the overrides of an invocation; where no invocation is named there are none
abbrev pub overrides_at : List (List Override) → Option ℕ → Result (List Override) Fault
overrides_at invocations None = Ok []
overrides_at invocations (Some i) = ok_or (slice_get invocations i) BadIndex

-- the level of the first override that specifies the descriptor; later ones are ignored
abbrev pub overriding_level : List Override → Option Descriptor → Option Level
overriding_level overrides None = None
overriding_level overrides (Some d) = option_and_then (λ o. o.level) (find (specifies d) overrides)

abbrev pub overriding_level_at : List (List Override) → Option ℕ → Option Descriptor
    → Result (Option Level) Fault
overriding_level_at invocations invocation descriptor =
    result_map (λ overrides. overriding_level overrides descriptor)
    (overrides_at invocations invocation)

-- the rule of a descriptor
abbrev pub rule_at : List (List Rule) → Descriptor → Option Rule
rule_at components d =
    option_and_then (λ rules. slice_get rules d.rule) (slice_get components d.component)

abbrev pub default_level : List (List Rule) → Option Descriptor → Option Level
default_level components None = None
default_level components (Some d) = option_and_then (λ rule. rule.level) (rule_at components d)

-- the effective level of a result with that descriptor; an invocation past the end is an error even if it is not
-- needed
abbrev pub level_with : RunHead → Parts → Option Descriptor → Result Level Fault
level_with head parts descriptor = do
  overriding ← overriding_level_at head.invocations parts.invocation descriptor
  let default = default_level head.components descriptor
  Ok (first_level (is_fail parts.kind) parts.level overriding default)

abbrev pub level_of : RunHead → Parts → Result Level Fault
level_of head parts = do
  descriptor ← descriptor_of head.components (reference_of parts)
  level_with head parts descriptor
