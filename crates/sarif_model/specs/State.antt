use Rattle.std.specs.Prelude.{ℕ, List, Option, Some, None, codes, bytes_eq, if◌then◌else◌}
use Rattle.sarif_model.specs.declared.kinds.State.{State}
use Rattle.sarif_model.specs.declared.kinds.State.TheVariants.{New, Unchanged, Updated, Absent}

-- the text of each (SARIF 2.1.0, "baselineState property")
abbrev pub state_name : State → List ℕ
state_name New = codes "new"
state_name Unchanged = codes "unchanged"
state_name Updated = codes "updated"
state_name Absent = codes "absent"

-- the one whose text this is, if there is one
abbrev pub state_named : List ℕ → Option State
state_named text =
    if bytes_eq text (state_name New) then Some New else (
    if bytes_eq text (state_name Unchanged) then Some Unchanged else (
    if bytes_eq text (state_name Updated) then Some Updated else (
    if bytes_eq text (state_name Absent) then Some Absent else (
    None))))
