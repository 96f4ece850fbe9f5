use Rattle.std.proofs.Common.{◌≡◌, drop}
use Rattle.sarif_change.specs.Internal.Files.{any_changed}
use Rattle.sarif_change.proofs.found.is_any_changed.Given as goal

abbrev pub invariant-loop-changed : goal.invariant-loop-changed
invariant-loop-changed l = any_changed l.lines (drop l.changed-index l.found) ≡ any_changed l.lines l.found
