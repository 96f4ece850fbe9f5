use Rattle.std.proofs.Common.{◌≡◌, drop}
use Rattle.sarif_suppress.specs.Internal.Marks.{with_marks}
use Rattle.sarif_suppress.proofs.marks.set_marks.Given as goal

-- the marks so far, with those of the numbers that are left
abbrev pub invariant-loop-number : goal.invariant-loop-number
invariant-loop-number l =
    with_marks l.marks (drop l.number-index l.numbers) ≡ with_marks l.fn.marks l.numbers
