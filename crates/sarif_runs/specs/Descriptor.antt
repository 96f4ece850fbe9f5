-- The rule of a result or an override (SARIF 2.1.0, "reportingDescriptorReference object", "ruleIndex property").
-- A descriptor is the number of a component (0 is the driver, k + 1 is extension k) and the index of the rule in
-- that component.
use Rattle.std.specs.Prelude.{ℕ, ◌+◌, nat_lt, List, length, slice_get, Option, Some, None, Result, Ok, Err, option_map, if◌then◌else◌}
use Rattle.std.specs.Option.{ok_or}
use Rattle.sarif_model.specs.declared.fault.Fault.{Fault}
use Rattle.sarif_model.specs.declared.fault.Fault.TheVariants.{BadIndex}
use Rattle.sarif_members.specs.declared.parts.Parts.{Parts}
use Rattle.sarif_model.specs.Members.{◌>>=◌, result_map}
use Rattle.sarif_runs.specs.declared.component.Descriptor.{Descriptor}
use Rattle.sarif_runs.specs.declared.component.Rule.{Rule}
use Rattle.sarif_runs.specs.Rules.{first_with_id}

-- how a rule is named: by its extension, its index in that component's rules, and its id
pub record Reference : Type 0 where
  pub component : Option ℕ
  pub index : Option ℕ
  pub id : Option (List ℕ)

abbrev pub reference_of : Parts → Reference
reference_of parts =
    record { component = parts.component; index = parts.rule_index; id = parts.rule_id }

abbrev pub component_number : Option ℕ → ℕ
component_number None = 0
component_number (Some extension) = extension + 1

-- the index takes precedence over the id; for an id the first rule with it is used; an index past the end is an
-- error
abbrev pub rule_number : List Rule → Option ℕ → Option (List ℕ) → Result (Option ℕ) Fault
rule_number rules (Some index) id =
    if nat_lt index (length rules) then Ok (Some index) else Err BadIndex
rule_number rules None (Some id) = Ok (first_with_id id rules)
rule_number rules None None = Ok None

-- the descriptor that a reference names, if it names one; a component past the end is an error
abbrev pub descriptor_of : List (List Rule) → Reference → Result (Option Descriptor) Fault
descriptor_of components named = do
  let number = component_number named.component
  rules ← ok_or (slice_get components number) BadIndex
  result_map (option_map (λ i. record { component = number; rule = i }))
      (rule_number rules named.index named.id)
