use Rattle.std.proofs.Common.{◌≡◌, take}
use Rattle.sarif_program.proofs.run.roots_of.Given as goal

abbrev pub invariant-loop-root : goal.invariant-loop-root
invariant-loop-root l = l.copies ≡ take l.root-index l.roots
