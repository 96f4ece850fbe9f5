-- Reading a policy file.
use Rattle.std.specs.Prelude.{ℕ, ⊤, ◌+◌, Bool, false, List, [], ◌∷◌, ◌++◌, length, Option, Some, None, Result, Ok, Err, option_and_then, option_map, nat_eq, nat_le, nat_lt, codes, if◌then◌else◌, ok_or}
use Rattle.std.specs.Option.{option_map_or}
use Rattle.json_parts.specs.Indexed.{json_of}
use Rattle.json_parts.specs.Mark.{without_mark}
use Rattle.serde_json.specs.Data.{Data}
use Rattle.serde_json.specs.Find.{get, as_array, as_number, as_u64}
use Rattle.sarif_model.specs.Members.{◌>>=◌, elements}
use Rattle.sarif_policy.specs.Fault.{whole, unless_fault}
use Rattle.sarif_policy.specs.Limits.{most_conditions}
use Rattle.sarif_policy.specs.Reading.{is_object_of, condition_of}
use Rattle.sarif_policy.specs.declared.condition.GateCondition.{GateCondition}
use Rattle.sarif_policy.specs.declared.fault.PolicyFault.{PolicyFault}
use Rattle.sarif_policy.specs.declared.fault.PolicyCause.TheVariants.{NotJson, NotPolicy, WrongVersion, NoCondition, TooMany}
use Rattle.sarif_policy.specs.declared.members.Part.TheVariants as parts

-- these conditions, and then those from number n on, or the first error among them
unfoldable pub conditions_from : Bool → ℕ → List GateCondition → List Data
    → Result (List GateCondition) PolicyFault
conditions_from diff n cs [] = Ok cs
conditions_from diff n cs (d ∷ ds) =
    condition_of diff n cs d >>= λ c. conditions_from diff (n + 1) (cs ++ c ∷ []) ds

abbrev pub list_or : Option (List Data) → Result (List Data) PolicyFault
list_or None = Err (whole NotPolicy)
list_or (Some ds) = Ok ds

abbrev pub list_in : Data → Option (List Data)
list_in d = option_map elements (option_and_then as_array (get (codes "conditions") d))

-- an object of known members with an array `conditions`
abbrev pub check_list : Data → Result (List Data) PolicyFault
check_list d = list_or (if is_object_of parts.Policy d then list_in d else None)

-- `version` is the integer 1
abbrev pub is_first : Data → Bool
is_first d =
    option_map_or (λ n. nat_eq n 1)
    (option_and_then as_u64 (option_and_then as_number (get (codes "version") d))) false

-- at least one condition, and not too many
abbrev pub check_count : List Data → Result ⊤ PolicyFault
check_count ds =
    if nat_lt 0 (length ds) then unless_fault (nat_le (length ds) most_conditions) (whole TooMany)
    else Err (whole NoCondition)

-- the conditions of the policy that a value represents
unfoldable pub policy_of_value : Bool → Data → Result (List GateCondition) PolicyFault
policy_of_value diff d = do
  ds ← check_list d
  _ ← unless_fault (is_first d) (whole WrongVersion)
  _ ← check_count ds
  conditions_from diff 0 [] ds

-- the conditions of the policy in these bytes, with or without a diff; otherwise the first error
unfoldable pub policy_of : List ℕ → Bool → Result (List GateCondition) PolicyFault
policy_of bytes diff = do
  d ← ok_or (json_of (without_mark bytes)) (whole NotJson)
  policy_of_value diff d
