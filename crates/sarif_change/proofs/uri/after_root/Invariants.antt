use Rattle.std.proofs.Common.{◌≡◌, drop}
use Rattle.sarif_change.specs.Uri.{after_root}
use Rattle.sarif_change.proofs.uri.after_root.Given as goal

abbrev pub invariant-loop-root : goal.invariant-loop-root
invariant-loop-root l = after_root (drop l.root-index l.roots) l.reading ≡ after_root l.roots l.reading
