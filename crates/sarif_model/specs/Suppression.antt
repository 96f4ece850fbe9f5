-- The suppressions of a result (SARIF 2.1.0, result object, "suppressions property").
use Rattle.std.specs.Prelude.{ℕ, Bool, false, List, Option, Result, Ok, Err, codes, bytes_eq, ◌||◌, if◌then◌else◌, ⊤, option_and_then, option_map, unwrap_or}
use Rattle.serde_json.specs.Data.{Data}
use Rattle.serde_json.specs.Find.{as_str}
use Rattle.sarif_model.specs.declared.fault.Fault.{Fault}
use Rattle.sarif_model.specs.declared.fault.Fault.TheVariants.{BadSuppression}
use Rattle.sarif_model.specs.declared.kinds.Status.{Status}
use Rattle.sarif_model.specs.declared.kinds.Status.TheVariants.{Accepted}
use Rattle.sarif_model.specs.Status.{status_named}
use Rattle.sarif_model.specs.Members.{◌>>=◌, of_kind, member_at}

-- where a suppression is: in the source or outside (suppression object, "kind property")
abbrev pub is_suppression_kind : List ℕ → Bool
is_suppression_kind text = bytes_eq text (codes "inSource") || bytes_eq text (codes "external")

abbrev pub kind_text : Data → Option (List ℕ)
kind_text suppression = option_and_then as_str (member_at (codes "kind") suppression)

-- its kind is required and one of these
abbrev pub check_suppression_kind : Data → Result ⊤ Fault
check_suppression_kind suppression =
    if unwrap_or (option_map is_suppression_kind (kind_text suppression)) false
    then Ok tt else Err BadSuppression

abbrev pub as_status : Data → Option Status
as_status d = option_and_then status_named (as_str d)

-- its status; accepted if it is missing
abbrev pub status_of : Data → Result Status Fault
status_of suppression = do
  _ ← check_suppression_kind suppression
  status ← of_kind BadSuppression as_status (member_at (codes "status") suppression)
  Ok (unwrap_or status Accepted)
