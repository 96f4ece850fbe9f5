-- Reading the conditions of a policy file.
use Rattle.std.specs.Prelude.{ℕ, ◌+◌, ◌-◌, ◌^◌, ◌==◌, Bool, true, false, not, ◌&&◌, ◌||◌, List, [], ◌∷◌, ◌++◌, length, Option, Some, None, Result, Ok, Err, is_some, is_none, option_and_then, option_map, unwrap_or, nat_le, nat_lt, bytes_eq, slice_index, codes, if◌then◌else◌, ok_or}
use Rattle.std.specs.List.{list_any, list_all}
use Rattle.std.specs.Option.{option_map_or}
use Rattle.serde_json.specs.Data.{Data, null, boolean, number, string, array, object, Members, no_members, member}
use Rattle.serde_json.specs.Find.{as_str, as_array, as_object, as_number, as_u64}
use Rattle.sarif_model.specs.Level.{level_named}
use Rattle.sarif_model.specs.State.{state_named}
use Rattle.sarif_model.specs.declared.kinds.Level.{Level}
use Rattle.sarif_model.specs.declared.kinds.Level.TheVariants.{Error}
use Rattle.sarif_model.specs.declared.kinds.State.{State}
use Rattle.sarif_model.specs.declared.kinds.State.TheVariants.{New, Unchanged, Updated, Absent}
use Rattle.sarif_model.specs.Members.{◌>>=◌, result_map, of_kind, member_at, text_at, elements}
use Rattle.sarif_change.specs.declared.spots.Scope.{Scope}
use Rattle.sarif_change.specs.declared.spots.Scope.TheVariants.{Lines, Files}
use Rattle.sarif_options.specs.Policy.{default_policy, is_listed}
use Rattle.sarif_options.specs.declared.policy.States.{States}
use Rattle.sarif_entries.specs.Condition.{all_kinds, name_of}
use Rattle.sarif_entries.specs.Entries.{conditions_of}
use Rattle.sarif_entries.specs.Matching.{is_empty}
use Rattle.sarif_entries.specs.FileFault as file
use Rattle.sarif_entries.specs.declared.condition.Condition.{Condition}
use Rattle.sarif_entries.specs.declared.entry.Entry.{Entry}
use Rattle.sarif_entries.specs.declared.fault.FileFault.{FileFault}
use Rattle.sarif_model.specs.declared.fault.Fault.TheVariants.{BadEntry}
use Rattle.sarif_policy.specs.Condition.{filter_with}
use Rattle.sarif_policy.specs.Decimal.{Number, decimal_of}
use Rattle.sarif_policy.specs.Fault.{in_condition, in_filter, unless_fault}
use Rattle.sarif_policy.specs.Limits.{most_filters, longest_name}
use Rattle.sarif_policy.specs.declared.condition.GateCondition.{GateCondition}
use Rattle.sarif_policy.specs.declared.condition.Minimum.{Minimum}
use Rattle.sarif_policy.specs.declared.condition.Unrated.{Unrated}
use Rattle.sarif_policy.specs.declared.condition.Unrated.TheVariants.{Count, Skip}
use Rattle.sarif_policy.specs.declared.fault.FilterList.{FilterList}
use Rattle.sarif_policy.specs.declared.fault.FilterList.TheVariants.{Only, Except}
use Rattle.sarif_policy.specs.declared.fault.PolicyFault.{PolicyFault}
use Rattle.sarif_policy.specs.declared.fault.PolicyCause.TheVariants.{BadCondition, BadFilter, EmptyFilter, SameName, NeedsDiff}
use Rattle.sarif_policy.specs.declared.members.Part.{Part}
use Rattle.sarif_policy.specs.declared.members.Part.TheVariants as parts

-- ---- which members there may be

abbrev pub is_filter_member : List ℕ → Bool
is_filter_member name = list_any (λ kind. bytes_eq name (name_of kind)) all_kinds

-- a policy, a condition or a filter may have a member of that name
abbrev pub has_member : Part → List ℕ → Bool
has_member parts.Policy name =
    bytes_eq name (codes "version")
    || (bytes_eq name (codes "conditions") || bytes_eq name (codes "$schema"))
has_member parts.Condition name =
    bytes_eq name (codes "name")
    || (bytes_eq name (codes "level")
    || (bytes_eq name (codes "states")
    || (bytes_eq name (codes "max")
    || (bytes_eq name (codes "ratchet")
    || (bytes_eq name (codes "only")
    || (bytes_eq name (codes "except")
    || (bytes_eq name (codes "minSecuritySeverity")
    || (bytes_eq name (codes "unrated") || bytes_eq name (codes "diff")))))))))
has_member parts.Filter name = is_filter_member name

abbrev pub are_members_of : Part → Members → Bool
are_members_of part no_members = true
are_members_of part (member name d ms) = has_member part name && are_members_of part ms

-- an object of members that it may have, with any values
abbrev pub is_object_of : Part → Data → Bool
is_object_of part d = option_map_or (are_members_of part) (as_object d) false

-- ---- filters

-- a result with another error
abbrev pub or_fault : {A : Type 0} → PolicyFault → Result A FileFault → Result A PolicyFault
or_fault wrong (Ok a) = Ok a
or_fault wrong (Err fault) = Err wrong

-- the conditions that a filter names, read as those of an entry
abbrev pub filter_conditions : PolicyFault → Data → Result (List Condition) PolicyFault
filter_conditions wrong d = or_fault wrong (conditions_of (file.whole BadEntry) d)

-- filter k in a list of condition n
unfoldable pub filter_of : ℕ → FilterList → ℕ → Data → Result Entry PolicyFault
filter_of n list k d = do
  _ ← unless_fault (is_object_of parts.Filter d) (in_filter n list k BadFilter)
  cs ← filter_conditions (in_filter n list k BadFilter) d
  _ ← unless_fault (not (is_empty cs)) (in_filter n list k EmptyFilter)
  Ok (filter_with cs)

-- these filters, and then those from number k on, or the first error among them
unfoldable pub filters_from : ℕ → FilterList → ℕ → List Entry → List Data
    → Result (List Entry) PolicyFault
filters_from n list k es [] = Ok es
filters_from n list k es (d ∷ ds) =
    filter_of n list k d >>= λ e. filters_from n list (k + 1) (es ++ e ∷ []) ds

-- the filters of `only`, if it is there
abbrev pub only_of : ℕ → Option (List Data) → Result (Option (List Entry)) PolicyFault
only_of n None = Ok None
only_of n (Some ds) = result_map Some (filters_from n Only 0 [] ds)

-- the filters of `except`; none if it is missing
abbrev pub except_of : ℕ → Option (List Data) → Result (List Entry) PolicyFault
except_of n None = Ok []
except_of n (Some ds) = filters_from n Except 0 [] ds

-- ---- the members of a condition

abbrev pub text_or : {X : Type 0} → PolicyFault → X → (List ℕ → Option X) → Option (List ℕ) → Result X PolicyFault
text_or wrong missing named None = Ok missing
text_or wrong missing named (Some text) = ok_or (named text) wrong

-- what the string of that name names; `missing` if there is no such member
abbrev pub named_at : {X : Type 0} → PolicyFault → List ℕ → X → (List ℕ → Option X) → Data → Result X PolicyFault
named_at wrong name missing named d = text_at wrong name d >>= text_or wrong missing named

-- a letter, a digit, a dot, an underscore, a hyphen or a space
abbrev pub is_name_byte : ℕ → Bool
is_name_byte b =
    (nat_le 65 b && nat_le b 90)
    || ((nat_le 97 b && nat_le b 122)
    || ((nat_le 48 b && nat_le b 57)
    || (b == 46 || (b == 95 || (b == 45 || b == 32)))))

-- 1 to 50 of these; neither the first nor the last is a space
abbrev pub is_name : List ℕ → Bool
is_name text =
    nat_lt 0 (length text)
    && (nat_le (length text) longest_name
    && (list_all is_name_byte text
    && (not (slice_index text 0 == 32) && not (slice_index text (length text - 1) == 32))))

abbrev pub name_or : PolicyFault → Option (List ℕ) → Result (List ℕ) PolicyFault
name_or wrong None = Err wrong
name_or wrong (Some text) = if is_name text then Ok text else Err wrong

abbrev pub name_at : PolicyFault → Data → Result (List ℕ) PolicyFault
name_at wrong d = text_at wrong (codes "name") d >>= name_or wrong

abbrev pub level_at : PolicyFault → Data → Result Level PolicyFault
level_at wrong d = named_at wrong (codes "level") Error level_named d

-- the elements of the array of that name, if it is there
abbrev pub array_at : PolicyFault → List ℕ → Data → Result (Option (List Data)) PolicyFault
array_at wrong name d = result_map (option_map elements) (of_kind wrong as_array (member_at name d))

abbrev pub no_states : States
no_states = record { absent = false; fresh = false; unchanged = false; updated = false }

abbrev pub with_state : States → State → States
with_state states New = record states { fresh = true }
with_state states Unchanged = record states { unchanged = true }
with_state states Updated = record states { updated = true }
with_state states Absent = record states { absent = true }

-- these states and one that is not among them
abbrev pub one_more : States → State → Option States
one_more states s = if is_listed states s then None else Some (with_state states s)

-- these states and those that the values name, each once
unfoldable pub states_from : States → List Data → Option States
states_from states [] = Some states
states_from states (d ∷ ds) =
    option_and_then (λ more. states_from more ds)
    (option_and_then (one_more states) (option_and_then state_named (as_str d)))

abbrev pub states_or : PolicyFault → Option (List Data) → Result States PolicyFault
states_or wrong None = Ok default_policy.states
states_or wrong (Some ds) =
    if nat_lt 0 (length ds) then ok_or (states_from no_states ds) wrong else Err wrong

abbrev pub states_at : PolicyFault → Data → Result States PolicyFault
states_at wrong d = array_at wrong (codes "states") d >>= states_or wrong

abbrev pub max_or : PolicyFault → Option ℕ → Result ℕ PolicyFault
max_or wrong None = Err wrong
max_or wrong (Some n) = if nat_lt n (2 ^ 32) then Ok n else Err wrong

abbrev pub max_of_member : PolicyFault → Option Data → Result ℕ PolicyFault
max_of_member wrong None = Ok 0
max_of_member wrong (Some d) = max_or wrong (option_and_then as_u64 (as_number d))

abbrev pub max_at : PolicyFault → Data → Result ℕ PolicyFault
max_at wrong d = max_of_member wrong (member_at (codes "max") d)

abbrev pub as_bool : Data → Option Bool
as_bool null = None
as_bool (boolean b) = Some b
as_bool (number n) = None
as_bool (string s) = None
as_bool (array ds) = None
as_bool (object ms) = None

abbrev pub flag_of_member : PolicyFault → Option Data → Result Bool PolicyFault
flag_of_member wrong None = Ok false
flag_of_member wrong (Some d) = ok_or (as_bool d) wrong

abbrev pub ratchet_at : PolicyFault → Data → Result Bool PolicyFault
ratchet_at wrong d = flag_of_member wrong (member_at (codes "ratchet") d)

abbrev pub filters_or : PolicyFault → Option (List Data) → Result (Option (List Data)) PolicyFault
filters_or wrong None = Ok None
filters_or wrong (Some ds) =
    if nat_lt 0 (length ds) && nat_le (length ds) most_filters then Ok (Some ds) else Err wrong

-- the filters of that name before they are read: at least one, and at most as many as there may be
abbrev pub filters_at : PolicyFault → List ℕ → Data → Result (Option (List Data)) PolicyFault
filters_at wrong name d = array_at wrong name d >>= filters_or wrong

abbrev pub unrated_named : List ℕ → Option (Option Unrated)
unrated_named text =
    if bytes_eq text (codes "count") then Some (Some Count)
    else (if bytes_eq text (codes "skip") then Some (Some Skip) else None)

abbrev pub unrated_at : PolicyFault → Data → Result (Option Unrated) PolicyFault
unrated_at wrong d = named_at wrong (codes "unrated") None unrated_named d

abbrev pub some_decimal : List ℕ → Option (Option Number)
some_decimal text = option_map Some (decimal_of text)

abbrev pub least_at : PolicyFault → Data → Result (Option Number) PolicyFault
least_at wrong d = named_at wrong (codes "minSecuritySeverity") None some_decimal d

abbrev pub minimum_with : PolicyFault → Option Number → Option Unrated → Result (Option Minimum) PolicyFault
minimum_with wrong None None = Ok None
minimum_with wrong None (Some unrated) = Err wrong
minimum_with wrong (Some least) unrated =
    Ok (Some (record { least = least; unrated = unwrap_or unrated Count }))

-- the minimum security severity; `unrated` needs one
unfoldable pub minimum_at : PolicyFault → Data → Result (Option Minimum) PolicyFault
minimum_at wrong d = do
  least ← least_at wrong d
  unrated ← unrated_at wrong d
  minimum_with wrong least unrated

abbrev pub scope_named : List ℕ → Option (Option Scope)
scope_named text =
    if bytes_eq text (codes "lines") then Some (Some Lines)
    else (if bytes_eq text (codes "files") then Some (Some Files) else None)

abbrev pub scope_at : PolicyFault → Data → Result (Option Scope) PolicyFault
scope_at wrong d = named_at wrong (codes "diff") None scope_named d

-- ---- a condition

-- an absent result makes a limit grow and is never inside a change, so `absent`, `ratchet` and `diff` exclude each other
abbrev pub go_together : States → Bool → Option Scope → Bool
go_together states ratchet diff =
    not (states.absent && (ratchet || is_some diff)) && not (ratchet && is_some diff)

-- a condition without its filters, minimum security severity and scope
unfoldable pub plain_of : PolicyFault → Data → Result GateCondition PolicyFault
plain_of wrong d = do
  name ← name_at wrong d
  level ← level_at wrong d
  states ← states_at wrong d
  max ← max_at wrong d
  ratchet ← ratchet_at wrong d
  Ok (record {
    name = name;
    level = level;
    states = states;
    max = max;
    ratchet = ratchet;
    only = None;
    except = [];
    minimum = None;
    diff = None;
  })

-- a condition with a minimum security severity and a scope, if they go together
abbrev pub with_scope : GateCondition → Option Minimum → Option Scope → PolicyFault
    → Result GateCondition PolicyFault
with_scope c minimum diff wrong =
    if go_together c.states c.ratchet diff
    then Ok (record c { minimum = minimum; diff = diff }) else Err wrong

-- a condition without its filters
unfoldable pub bare_of : PolicyFault → Data → Result GateCondition PolicyFault
bare_of wrong d = do
  _ ← unless_fault (is_object_of parts.Condition d) wrong
  plain ← plain_of wrong d
  minimum ← minimum_at wrong d
  diff ← scope_at wrong d
  with_scope plain minimum diff wrong

-- a condition with the filters of both lists
unfoldable pub with_filters : ℕ → GateCondition → Option (List Data) → Option (List Data)
    → Result GateCondition PolicyFault
with_filters n c only except = do
  chosen ← only_of n only
  left_out ← except_of n except
  Ok (record c { only = chosen; except = left_out })

-- condition n with its filters
unfoldable pub filtered_of : ℕ → Data → Result GateCondition PolicyFault
filtered_of n d = do
  only ← filters_at (in_condition n BadCondition) (codes "only") d
  except ← filters_at (in_condition n BadCondition) (codes "except") d
  bare ← bare_of (in_condition n BadCondition) d
  with_filters n bare only except

-- an earlier condition has its name
abbrev pub has_same_name : List GateCondition → GateCondition → Bool
has_same_name earlier c = list_any (λ (e : GateCondition). bytes_eq e.name c.name) earlier

-- condition n, if no earlier one has its name, and there is a diff if it needs one
abbrev pub if_accepted : Bool → ℕ → List GateCondition → GateCondition
    → Result GateCondition PolicyFault
if_accepted diff n earlier c =
    if has_same_name earlier c then Err (in_condition n SameName)
    else (if diff || is_none c.diff then Ok c else Err (in_condition n NeedsDiff))

-- condition n after earlier ones, with or without a diff
unfoldable pub condition_of : Bool → ℕ → List GateCondition → Data
    → Result GateCondition PolicyFault
condition_of diff n earlier d = filtered_of n d >>= if_accepted diff n earlier
