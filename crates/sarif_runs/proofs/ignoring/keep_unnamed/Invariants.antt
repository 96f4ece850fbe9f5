use Rattle.std.proofs.Common.{◌≡◌, ◌++◌, drop}
use Rattle.sarif_runs.specs.Ignoring.{without_names}
use Rattle.sarif_runs.proofs.ignoring.keep_unnamed.Given as goal

abbrev pub invariant-loop-member : goal.invariant-loop-member
invariant-loop-member l =
    l.kept ++ without_names l.names (drop l.member-index l.members) ≡ without_names l.names l.members
