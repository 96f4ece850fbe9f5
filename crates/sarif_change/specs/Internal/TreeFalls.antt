-- Each side of a tree has fewer files than the tree.
use Rattle.std.specs.Prelude.{◌≤◌, max, length}
use Rattle.std.proofs.Common.{arith, length-append}
use Rattle.sarif_change.specs.declared.tree.Node.{Node}
use Rattle.sarif_change.specs.declared.tree.Node.TheVariants.{One, Two}
use Rattle.sarif_change.specs.declared.tree.Tree.TheDeep.{deep-Node}
use Rattle.sarif_change.specs.Internal.Trees.{files_in, IsRight}

-- no side is deeper than the tree has files
pub depth_le-length-files : (n : Node) → IsRight n → max (deep-Node n) 0 ≤ length (files_in n)
depth_le-length-files (One file) right = omega arith
depth_le-length-files (Two left shared right) is = omega (arith, length-append left.value right.value, is.0, is.1)
