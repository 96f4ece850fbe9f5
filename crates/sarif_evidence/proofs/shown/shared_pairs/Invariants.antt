use Rattle.std.proofs.Common.{◌≡◌, ◌++◌, drop}
use Rattle.sarif_evidence.proofs.shown.shared_pairs.Given as goal

-- those so far, and then those that are left
abbrev pub invariant-loop-name : goal.invariant-loop-name
invariant-loop-name l = l.shared ++ drop l.name-index l.members ≡ l.members
