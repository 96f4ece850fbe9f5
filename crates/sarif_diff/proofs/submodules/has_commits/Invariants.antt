use Rattle.std.proofs.Common.{◌≡◌, drop}
use Rattle.sarif_diff.specs.Words.{has_commits}
use Rattle.sarif_diff.proofs.submodules.has_commits.Given as goal

abbrev pub invariant-loop-i : goal.invariant-loop-i
invariant-loop-i l = has_commits (drop l.i l.text) ≡ has_commits l.text
