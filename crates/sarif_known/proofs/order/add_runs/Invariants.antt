use Rattle.std.proofs.Common.{◌≡◌, length, map}
use Rattle.sarif_known.specs.Chosen.{all_chosen}
use Rattle.sarif_known.specs.Internal.Groups.{groups_of, side_by_side, texts_of}
use Rattle.sarif_known.specs.Order.{runs_of_tool}
use Rattle.sarif_known.proofs.order.add_runs.Given as goal

abbrev pub invariant-loop-run : goal.invariant-loop-run
invariant-loop-run l = record {
  added : side_by_side (groups_of l.groups.items) (map (runs_of_tool (all_chosen l.run-iterator.rest.items)) (texts_of l.tools.keys))
      ≡ side_by_side (groups_of l.initial.groups.items) (map (runs_of_tool (all_chosen l.fn.runs.items)) (texts_of l.tools.keys));
  count : length l.groups.items ≡ length l.tools.keys;
}
