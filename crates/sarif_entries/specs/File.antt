-- Reading the suppression file.
use Rattle.std.specs.Option.{option_map_or}
use Rattle.std.specs.Prelude.{ℕ, ◌+◌, ⊤, Bool, false, List, [], ◌∷◌, length, Option, Some, None, Result, Ok, Err, option_and_then, nat_eq, nat_le, codes, if◌then◌else◌, ok_or}
use Rattle.serde_json.specs.Data.{Data, Items}
use Rattle.serde_json.specs.Find.{get, as_array, as_number, as_u64}
use Rattle.sarif_model.specs.Members.{◌>>=◌, elements}
use Rattle.json_parts.specs.Mark.{without_mark}
use Rattle.json_parts.specs.Indexed.{json_of}
use Rattle.sarif_entries.specs.declared.entry.Entry.{Entry}
use Rattle.sarif_entries.specs.declared.fault.FileFault.{FileFault}
use Rattle.sarif_model.specs.declared.fault.Fault.TheVariants.{NotJson, NotList, WrongVersion, TooMany}
use Rattle.sarif_entries.specs.declared.version.Version.{Version}
use Rattle.sarif_entries.specs.declared.version.Version.TheVariants.{First, Second, Fourth, Fifth}
use Rattle.sarif_entries.specs.FileFault.{whole}
use Rattle.sarif_entries.specs.Entries.{unless_fault, entry_of}
use Rattle.sarif_model.specs.Limits.{most_entries}

-- the entries of a suppression file in order, and the date for which it was read, if one is known
pub record File : Type 0 where
  pub entries : List Entry
  pub today : Option ℕ

abbrev pub list_or : Option Items → Result (List Data) FileFault
list_or None = Err (whole NotList)
list_or (Some ds) = Ok (elements ds)

-- the file is an object with an array `suppressions`
abbrev pub check_list : Data → Result (List Data) FileFault
check_list d = list_or (option_and_then as_array (get (codes "suppressions") d))

abbrev pub version_or : Option ℕ → Result Version FileFault
version_or None = Err (whole WrongVersion)
version_or (Some n) =
    if nat_eq n 1 then Ok First
    else (if nat_eq n 2 then Ok Second
    else (if nat_eq n 4 then Ok Fourth
    else (if nat_eq n 5 then Ok Fifth else Err (whole WrongVersion))))

-- the number of a version
abbrev pub number_of : Version → ℕ
number_of First = 1
number_of Second = 2
number_of Fourth = 4
number_of Fifth = 5

-- `version`, if it is an integer
abbrev pub number_in : Data → Option ℕ
number_in d = option_and_then as_u64 (option_and_then as_number (get (codes "version") d))

-- `version` is the integer 1, 2, 4 or 5
abbrev pub check_version : Data → Result Version FileFault
check_version d = version_or (number_in d)

-- the value is that of a file of version 5
abbrev pub is_fifth : Data → Bool
is_fifth d = option_map_or (λ n. nat_eq n 5) (number_in d) false

-- these bytes are those of a file of version 5, whose entries may name snippets
abbrev pub looks_at_snippets : Option (List ℕ) → Bool
looks_at_snippets None = false
looks_at_snippets (Some bytes) = option_map_or is_fifth (json_of (without_mark bytes)) false

-- not too many entries
abbrev pub check_count : List Data → Result ⊤ FileFault
check_count ds = unless_fault (nat_le (length ds) most_entries) (whole TooMany)

-- the entries from number n on, or the first error among them
unfoldable pub entries_from : Version → Option ℕ → ℕ → List Data
    → Result (List Entry) FileFault
entries_from version today n [] = Ok []
entries_from version today n (d ∷ ds) = do
  e ← entry_of version today n d
  es ← entries_from version today (n + 1) ds
  Ok (e ∷ es)

-- the file that a value represents
unfoldable pub file_of_value : Option ℕ → Data → Result File FileFault
file_of_value today d = do
  ds ← check_list d
  version ← check_version d
  _ ← check_count ds
  es ← entries_from version today 0 ds
  Ok (record { entries = es; today = today })

-- the suppression file of these bytes, on that day
unfoldable pub file_of : List ℕ → Option ℕ → Result File FileFault
file_of bytes today = do
  d ← ok_or (json_of (without_mark bytes)) (whole NotJson)
  file_of_value today d
