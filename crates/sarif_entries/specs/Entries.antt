-- Reading the entries of the suppression file.
use Rattle.std.specs.Prelude.{ℕ, ⊤, Bool, true, false, ◌&&◌, ◌||◌, ◌/◌, ◌%◌, List, [], ◌∷◌, Option, Some, None, Result, Ok, Err, option_and_then, option_map, nat_le, bytes_eq, codes, not, is_some, is_none, if◌then◌else◌, ok_or}
use Rattle.std.specs.List.{list_any}
use Rattle.serde_json.specs.Data.{Data, null, boolean, number, string, array, object, Members, no_members, member}
use Rattle.serde_json.specs.Find.{as_str, as_object, as_number, as_u64}
use Rattle.sarif_model.specs.Guid.{guid_of_text}
use Rattle.sarif_model.specs.Limits.{first_day, last_day}
use Rattle.sarif_model.specs.Members.{◌>>=◌, result_map, member_at, text_at, elements_at, read_each, or_wrong}
use Rattle.sarif_model.specs.Status.{status_named}
use Rattle.sarif_model.specs.declared.kinds.Status.{Status}
use Rattle.sarif_model.specs.declared.kinds.Status.TheVariants.{Accepted}
use Rattle.sarif_entries.specs.declared.condition.Condition.{Condition}
use Rattle.sarif_entries.specs.declared.condition.ConditionKind.{ConditionKind}
use Rattle.sarif_entries.specs.declared.entry.Entry.{Entry}
use Rattle.sarif_entries.specs.declared.fault.FileFault.{FileFault}
use Rattle.sarif_entries.specs.declared.limit.Limit.{Limit}
use Rattle.sarif_model.specs.declared.fault.Fault.TheVariants.{BadEntry, EmptyMatch, NeedsToday}
use Rattle.sarif_entries.specs.declared.version.Version.{Version}
use Rattle.sarif_entries.specs.declared.version.Version.TheVariants.{First, Second, Fourth, Fifth}
use Rattle.sarif_entries.specs.FileFault.{in_entry}
use Rattle.sarif_entries.specs.Condition.{Form, a_text, a_guid, some_pairs, some_texts, all_kinds, name_of, since, form_of, unless_empty}
use Rattle.sarif_entries.specs.Matching.{is_empty}

-- a version has what an earlier version introduced
abbrev pub includes : Version → Version → Bool
includes version First = true
includes First Second = false
includes Second Second = true
includes Fourth Second = true
includes Fifth Second = true
includes First Fourth = false
includes Second Fourth = false
includes Fourth Fourth = true
includes Fifth Fourth = true
includes First Fifth = false
includes Second Fifth = false
includes Fourth Fifth = false
includes Fifth Fifth = true

-- an entry of that version may have a condition in a member of that name
abbrev pub has_condition : Version → List ℕ → Bool
has_condition version name =
    list_any (λ kind. bytes_eq name (name_of kind) && includes version (since kind)) all_kinds

-- an entry of that version may have a member of that name
abbrev pub has_member : Version → List ℕ → Bool
has_member version name =
    has_condition version name
    || (bytes_eq name (codes "status")
    || (bytes_eq name (codes "justification")
    || ((bytes_eq name (codes "expires") && includes version Second)
    || (bytes_eq name (codes "max") && includes version Fifth))))

abbrev pub are_members_of : Version → Members → Bool
are_members_of version no_members = true
are_members_of version (member name d ms) = has_member version name && are_members_of version ms

abbrev pub unless_fault : Bool → FileFault → Result ⊤ FileFault
unless_fault true fault = Ok tt
unless_fault false fault = Err fault

abbrev pub check_object : Version → FileFault → Option Members → Result ⊤ FileFault
check_object version wrong None = Err wrong
check_object version wrong (Some ms) = unless_fault (are_members_of version ms) wrong

-- an entry is an object whose member names its version knows, with any values
abbrev pub check_members : Version → FileFault → Data → Result ⊤ FileFault
check_members version wrong d = check_object version wrong (as_object d)

abbrev pub guid_or : FileFault → Option (List ℕ) → Result (Option ℕ) FileFault
guid_or wrong None = Ok None
guid_or wrong (Some text) = or_wrong wrong (guid_of_text text)

-- the GUID with that name, if there is one
abbrev pub guid_at : FileFault → List ℕ → Data → Result (Option ℕ) FileFault
guid_at wrong name d = text_at wrong name d >>= guid_or wrong

abbrev pub is_text_or_null : Data → Bool
is_text_or_null null = true
is_text_or_null (boolean b) = false
is_text_or_null (number n) = false
is_text_or_null (string s) = true
is_text_or_null (array ds) = false
is_text_or_null (object ms) = false

abbrev pub are_texts : Members → Bool
are_texts no_members = true
are_texts (member name d ms) = is_text_or_null d && are_texts ms

abbrev pub with_pair : List ℕ → Option (List ℕ) → List (List ℕ × List ℕ) → List (List ℕ × List ℕ)
with_pair name None pairs = pairs
with_pair name (Some text) pairs = (name, text) ∷ pairs

-- the members that are strings, with their names, in order
abbrev pub pairs_of : Members → List (List ℕ × List ℕ)
pairs_of no_members = []
pairs_of (member name d ms) = with_pair name (as_str d) (pairs_of ms)

abbrev pub pairs_or : FileFault → Option Members
    → Result (List (List ℕ × List ℕ)) FileFault
pairs_or wrong None = Err wrong
pairs_or wrong (Some ms) = if are_texts ms then Ok (pairs_of ms) else Err wrong

abbrev pub pairs_of_member : FileFault → Option Data
    → Result (List (List ℕ × List ℕ)) FileFault
pairs_of_member wrong None = Ok []
pairs_of_member wrong (Some d) = pairs_or wrong (as_object d)

-- the object of strings with that name, without its null members; empty if it is missing
abbrev pub pairs_at : FileFault → List ℕ → Data → Result (List (List ℕ × List ℕ)) FileFault
pairs_at wrong name d = pairs_of_member wrong (member_at name d)

abbrev pub text_or : FileFault → Data → Result (List ℕ) FileFault
text_or wrong d = ok_or (as_str d) wrong

-- the elements of the array of strings with that name; empty if it is missing
abbrev pub texts_at : FileFault → List ℕ → Data → Result (List (List ℕ)) FileFault
texts_at wrong name d = elements_at wrong name d >>= read_each (text_or wrong)

abbrev pub is_within : ℕ → ℕ → ℕ → Bool
is_within least greatest n = nat_le least n && nat_le n greatest

-- a day yyyymmdd from the first to the last, of a month 1 to 12 and a day 1 to 31; the lengths of months don't count
abbrev pub is_day : ℕ → Bool
is_day n =
    is_within first_day last_day n && (is_within 1 12 (n / 100 % 100) && is_within 1 31 (n % 100))

abbrev pub day_or : FileFault → Option ℕ → Result (Option ℕ) FileFault
day_or wrong None = Err wrong
day_or wrong (Some n) = if is_day n then Ok (Some n) else Err wrong

abbrev pub day_of_member : FileFault → Option Data → Result (Option ℕ) FileFault
day_of_member wrong None = Ok None
day_of_member wrong (Some d) = day_or wrong (option_and_then as_u64 (as_number d))

-- the date with that name, if there is one
abbrev pub day_at : FileFault → List ℕ → Data → Result (Option ℕ) FileFault
day_at wrong name d = day_of_member wrong (member_at name d)

-- the greatest number that `max` can be
abbrev pub greatest_max : ℕ
greatest_max = 4294967295

abbrev pub limit_or : FileFault → ℕ → Option ℕ → Result (Option Limit) FileFault
limit_or wrong n None = Err wrong
limit_or wrong n (Some most) =
    if is_within 1 greatest_max most then Ok (Some (record { most = most; number = n }))
    else Err wrong

abbrev pub limit_of_member : FileFault → ℕ → Option Data → Result (Option Limit) FileFault
limit_of_member wrong n None = Ok None
limit_of_member wrong n (Some d) = limit_or wrong n (option_and_then as_u64 (as_number d))

-- the limit of entry n, by the member of that name, if there is one
abbrev pub limit_at : FileFault → ℕ → List ℕ → Data → Result (Option Limit) FileFault
limit_at wrong n name d = limit_of_member wrong n (member_at name d)

abbrev pub status_or : FileFault → Option (List ℕ) → Result Status FileFault
status_or wrong None = Ok Accepted
status_or wrong (Some text) = ok_or (status_named text) wrong

-- the status of that name; `accepted` if it is missing
abbrev pub status_at : FileFault → List ℕ → Data → Result Status FileFault
status_at wrong name d = text_at wrong name d >>= status_or wrong

-- the condition in the member of that name, if there is one
abbrev pub read_as : Form → FileFault → List ℕ → Data → Result (Option Condition) FileFault
read_as (a_text make) wrong name d = result_map (option_map make) (text_at wrong name d)
read_as (a_guid make) wrong name d = result_map (option_map make) (guid_at wrong name d)
read_as (some_pairs make) wrong name d = result_map (unless_empty make) (pairs_at wrong name d)
read_as (some_texts make) wrong name d = result_map (unless_empty make) (texts_at wrong name d)

-- the condition of that kind that an entry names, if it names one
abbrev pub condition_at : FileFault → Data → ConditionKind → Result (Option Condition) FileFault
condition_at wrong d kind = read_as (form_of kind) wrong (name_of kind) d

-- a condition, if there is one, before these
abbrev pub with_condition : Option Condition → List Condition → List Condition
with_condition None cs = cs
with_condition (Some c) cs = c ∷ cs

-- the conditions of these kinds that an entry names, in order
abbrev pub conditions_from : FileFault → Data → List ConditionKind
    → Result (List Condition) FileFault
conditions_from wrong d [] = Ok []
conditions_from wrong d (kind ∷ rest) =
    condition_at wrong d kind >>= λ found.
    result_map (with_condition found) (conditions_from wrong d rest)

-- the conditions that an entry names
unfoldable pub conditions_of : FileFault → Data → Result (List Condition) FileFault
conditions_of wrong d = conditions_from wrong d all_kinds

-- the members of entry n, each of its kind or null
unfoldable pub members_of : FileFault → ℕ → Data → Result Entry FileFault
members_of wrong n d = do
  conditions ← conditions_of wrong d
  expires ← day_at wrong (codes "expires") d
  status ← status_at wrong (codes "status") d
  justification ← text_at wrong (codes "justification") d
  limit ← limit_at wrong n (codes "max") d
  Ok (record {
    conditions = conditions;
    expires = expires;
    status = status;
    justification = justification;
    limit = limit;
  })

-- an entry names at least one condition
abbrev pub check_condition : ℕ → Entry → Result ⊤ FileFault
check_condition n e = unless_fault (not (is_empty e.conditions)) (in_entry n EmptyMatch)

-- if an entry has an expiry date, today's date is known
abbrev pub check_today : ℕ → Option ℕ → Entry → Result ⊤ FileFault
check_today n today e = unless_fault (not (is_some e.expires && is_none today)) (in_entry n NeedsToday)

-- entry n of a file of that version, on that day
unfoldable pub entry_of : Version → Option ℕ → ℕ → Data → Result Entry FileFault
entry_of version today n d = do
  _ ← check_members version (in_entry n BadEntry) d
  e ← members_of (in_entry n BadEntry) n d
  _ ← check_condition n e
  _ ← check_today n today e
  Ok e
