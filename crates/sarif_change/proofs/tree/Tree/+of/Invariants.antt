use Rattle.std.proofs.Common.{length}
use Rattle.sarif_change.proofs.tree.Tree.+of.Given as goal

abbrev pub decreases-of : goal.decreases-of
decreases-of l = length l.files.items
