use Rattle.std.proofs.Common.{◌≡◌, ◌++◌, drop}
use Rattle.sarif_suppress.specs.Internal.Admission.{opened_from}
use Rattle.sarif_suppress.proofs.admission.open_entries.Given as goal

-- the entries so far, and then those that are left
abbrev pub invariant-loop-number : goal.invariant-loop-number
invariant-loop-number l =
    l.live.items ++ opened_from l.left l.number (drop l.number l.entries) ≡ opened_from l.left 0 l.entries
