use Rattle.std.proofs.Common.{◌≡◌, ◌≤◌, ◌++◌, drop, length}
use Rattle.sarif_prepare.specs.Internal.Marking.{spread_told}
use Rattle.sarif_prepare.proofs.marking.spread_told.Given as goal

-- the marks so far, and then those of the results that are left
abbrev pub invariant-loop-number : goal.invariant-loop-number
invariant-loop-number l = record {
  spread : l.spread.items ++ spread_told l.reporting (drop l.number l.drafts) (drop l.number l.states) l.marks l.next
      ≡ spread_told l.reporting l.drafts l.states l.marks 0;
  few : l.next ≤ length l.spread.items;
}
