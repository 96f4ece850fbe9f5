use Rattle.std.proofs.Common.{length}
use Rattle.sarif_change.proofs.changed.Changed.+find_paths.Given as goal

abbrev pub decreases-find_paths : goal.decreases-find_paths
decreases-find_paths l = length l.paths.now
