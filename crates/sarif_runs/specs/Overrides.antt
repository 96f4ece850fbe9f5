-- The overrides of a run's invocations (SARIF 2.1.0, "invocation object", "ruleConfigurationOverrides property").
use Rattle.std.specs.Prelude.{ℕ, Bool, false, ◌&&◌, nat_eq, List, codes, Option, Some, None, Result, Ok, position}
use Rattle.serde_json.specs.Data.{Data}
use Rattle.sarif_model.specs.declared.fault.Fault.{Fault}
use Rattle.sarif_model.specs.declared.fault.Fault.TheVariants.{BadMember, BadIndex}
use Rattle.sarif_model.specs.Members.{◌>>=◌, text_at, object_at, objects_at, index_at, read_each, if_there}
use Rattle.sarif_runs.specs.declared.component.Descriptor.{Descriptor}
use Rattle.sarif_runs.specs.declared.component.Rule.{Rule}
use Rattle.sarif_runs.specs.declared.invocation.Override.{Override}
use Rattle.sarif_runs.specs.Reading.{level_at}
use Rattle.sarif_runs.specs.Descriptor.{descriptor_of}

-- an override: the descriptor that it specifies, if it specifies one, and `configuration.level`
unfoldable pub override_of : List (List Rule) → Data → Result Override Fault
override_of components d = do
  named ← object_at BadMember (codes "descriptor") d
  id ← if_there (text_at BadMember (codes "id")) named
  component ← if_there (object_at BadMember (codes "toolComponent")) named
  configuration ← object_at BadMember (codes "configuration") d
  index ← if_there (index_at BadIndex (codes "index")) named
  extension ← if_there (index_at BadIndex (codes "index")) component
  descriptor ← descriptor_of components (record { component = extension; index = index; id = id })
  level ← if_there level_at configuration
  Ok (record { descriptor = descriptor; level = level })

-- the overrides of each invocation, unchanged
abbrev pub override_lists : List Data → Result (List (List Data)) Fault
override_lists invocations =
    read_each (objects_at BadMember (codes "ruleConfigurationOverrides")) invocations

-- the overrides of each invocation, in order; the lists of all invocations come before the first override
unfoldable pub invocations_of : List (List Rule) → Data → Result (List (List Override)) Fault
invocations_of components run = do
  invocations ← objects_at BadMember (codes "invocations") run
  lists ← override_lists invocations
  read_each (read_each (override_of components)) lists

abbrev pub is_same_descriptor : Descriptor → Descriptor → Bool
is_same_descriptor a b = nat_eq a.component b.component && nat_eq a.rule b.rule

abbrev pub is_descriptor : Descriptor → Option Descriptor → Bool
is_descriptor d None = false
is_descriptor d (Some e) = is_same_descriptor d e

abbrev pub specifies : Descriptor → Override → Bool
specifies d o = is_descriptor d o.descriptor

-- the place of the first override that specifies the descriptor
abbrev pub first_for : Descriptor → List Override → Option ℕ
first_for d overrides = position (specifies d) overrides
