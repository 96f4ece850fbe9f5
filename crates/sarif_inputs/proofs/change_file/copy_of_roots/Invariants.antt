use Rattle.std.proofs.Common.{◌≡◌, take}
use Rattle.sarif_inputs.proofs.change_file.copy_of_roots.Given as goal

abbrev pub invariant-loop-root : goal.invariant-loop-root
invariant-loop-root l = l.copy ≡ take l.root-index l.roots
