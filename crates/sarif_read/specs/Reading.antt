-- Reading a log: its stripped runs, or the first error with its run (SARIF 2.1.0, "sarifLog object", "run object",
-- "tool object", "toolComponent object").
use Rattle.std.specs.Prelude.{◌+◌, ℕ, ⊤, Bool, true, false, not, ◌&&◌, nat_lt, List, [], ◌∷◌, length, Option, Some, None, Result, Ok, Err, codes, is_some, option_map, option_and_then, unwrap_or, if◌then◌else◌}
use Rattle.serde_json.specs.Data.{Data, null, boolean, number, string, array, object, Items, no_items, item, Members, no_members, member}
use Rattle.serde_json.specs.Find.{get, as_str, as_object}
use Rattle.json_parts.specs.Indexed.{json_of}
pub use Rattle.json_parts.specs.Indexed.{json_of}
use Rattle.sarif_model.specs.declared.fault.Fault.{Fault}
use Rattle.sarif_model.specs.declared.fault.Fault.TheVariants.{NotJson, NotLog, WrongVersion, BadRun, ExternalProperties, TooMany}
use Rattle.sarif_read.specs.declared.read_fault.ReadFault.{ReadFault}
use Rattle.sarif_model.specs.Members.{◌>>=◌, is_object, member_at, objects_at}
use Rattle.sarif_model.specs.Run.{results_of, is_text, runs_of}
use Rattle.sarif_read.specs.Stripping.{stripped}
use Rattle.json_parts.specs.Mark.{without_mark}
use Rattle.sarif_model.specs.Driver.{driver_name}
use Rattle.sarif_model.specs.Limits.{most_results, most_runs}

abbrev pub unless_fault : Bool → Fault → Result ⊤ Fault
unless_fault passes fault = if passes then Ok tt else Err fault

-- ---- the log

abbrev pub is_array_or_null : Data → Bool
is_array_or_null null = true
is_array_or_null (boolean b) = false
is_array_or_null (number n) = false
is_array_or_null (string s) = false
is_array_or_null (array ds) = true
is_array_or_null (object ms) = false

-- an object with `runs`, an array or null
abbrev pub check_runs : Data → Result ⊤ Fault
check_runs log =
    unless_fault (unwrap_or (option_map is_array_or_null (get (codes "runs") log)) false) NotLog

abbrev pub check_version : Data → Result ⊤ Fault
check_version log =
    unless_fault (is_text (codes "2.1.0") (option_and_then as_str (get (codes "version") log)))
    WrongVersion

abbrev pub check_count : Data → Result ⊤ Fault
check_count log = unless_fault (not (nat_lt most_runs (length (runs_of log)))) TooMany

abbrev pub check_tool : Data → Result ⊤ Fault
check_tool run = unless_fault (is_some (driver_name run)) BadRun

abbrev pub has_no_members : Members → Bool
has_no_members no_members = true
has_no_members (member k d ms) = false

abbrev pub is_empty_object : Data → Bool
is_empty_object d = unwrap_or (option_map has_no_members (as_object d)) false

abbrev pub has_no_items : Items → Bool
has_no_items no_items = true
has_no_items (item d ds) = false

abbrev pub is_null_or_empty : Data → Bool
is_null_or_empty null = true
is_null_or_empty (boolean b) = false
is_null_or_empty (number n) = false
is_null_or_empty (string s) = false
is_null_or_empty (array ds) = has_no_items ds
is_null_or_empty (object ms) = false

-- no file is named for this part of a run: the member is absent, null or an empty array
abbrev pub names_none_for : List ℕ → Data → Bool
names_none_for part files = unwrap_or (option_map is_null_or_empty (get part files)) true

-- no file is named for a part of a run that is read
abbrev pub names_nothing_read : Data → Bool
names_nothing_read files =
    is_object files
    && (names_none_for (codes "artifacts") files
    && (names_none_for (codes "driver") files
    && (names_none_for (codes "extensions") files
    && (names_none_for (codes "invocations") files
    && names_none_for (codes "results") files))))

-- whether these external property files may be named, where files that hold nothing that is read are allowed or not
abbrev pub may_be_named : Bool → Data → Bool
may_be_named false files = is_empty_object files
may_be_named true files = names_nothing_read files

-- no external property files are named; if that is allowed, none that hold what is read
-- (SARIF 2.1.0, "externalPropertyFileReferences object")
abbrev pub check_external : Bool → Data → Result ⊤ Fault
check_external allow run =
    unless_fault
    (unwrap_or
    (option_map (may_be_named allow)
    (member_at (codes "externalPropertyFileReferences") run)) true)
    ExternalProperties

-- an array of objects, or absent
abbrev pub check_results : Data → Result ⊤ Fault
check_results run = objects_at BadRun (codes "results") run >>= λ _. Ok tt

-- the results of this and of all earlier runs of the log
abbrev pub count_results : ℕ → Data → Result ℕ Fault
count_results before run =
    if nat_lt most_results (before + length (results_of run)) then Err TooMany
    else Ok (before + length (results_of run))

-- the number of results before a run, and the number with it
unfoldable pub check_run : Bool → ℕ → Data → Result ℕ Fault
check_run allow before run = do
  _ ← check_tool run
  _ ← check_external allow run
  _ ← check_results run
  count_results before run

abbrev pub at_whole : {A : Type 0} → Result A Fault → Result A ReadFault
at_whole (Ok x) = Ok x
at_whole (Err fault) = Err (record { run = None; fault = fault })

abbrev pub at_run : {A : Type 0} → ℕ → Result A Fault → Result A ReadFault
at_run n (Ok x) = Ok x
at_run n (Err fault) = Err (record { run = Some n; fault = fault })

-- the runs from run n on, with `before` results before them
unfoldable pub check_each : Bool → ℕ → ℕ → List Data → Result ⊤ ReadFault
check_each allow n before [] = Ok tt
check_each allow n before (run ∷ runs) = do
  now ← at_run n (check_run allow before run)
  check_each allow (n + 1) now runs

-- ---- the whole

abbrev pub ok_or : {A : Type 0} → Option A → Fault → Result A Fault
ok_or None fault = Err fault
ok_or (Some x) fault = Ok x

-- the form of the log itself
unfoldable pub check_log : Data → Result ⊤ Fault
check_log log = do
  _ ← check_runs log
  _ ← check_version log
  check_count log

-- the runs of a log; external property files that hold nothing that is read are allowed or not
unfoldable pub log_of_value : Bool → Data → Result (List Data) ReadFault
log_of_value allow log = do
  _ ← at_whole (check_log log)
  _ ← check_each allow 0 0 (runs_of log)
  Ok (runs_of log)

unfoldable pub log_of : Bool → List ℕ → Result (List Data) ReadFault
log_of allow bytes = do
  value ← at_whole (ok_or (json_of (without_mark bytes)) NotJson)
  log_of_value allow (stripped value)
