use Rattle.std.proofs.Common.{◌≡◌, drop}
use Rattle.sarif_findings.specs.PathOf.{without_root}
use Rattle.sarif_findings.proofs.path.without_root.Given as goal

abbrev pub invariant-loop-root : goal.invariant-loop-root
invariant-loop-root l = without_root (drop l.root-index l.roots) l.path ≡ without_root l.roots l.path
