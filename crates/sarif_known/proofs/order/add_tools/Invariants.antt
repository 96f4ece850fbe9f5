use Rattle.std.proofs.Common.{◌≡◌, ◌++◌, drop, map}
use Rattle.sarif_known.specs.Chosen.{all_chosen}
use Rattle.sarif_known.specs.Internal.Groups.{texts_of}
use Rattle.sarif_known.specs.Order.{once_each}
use Rattle.sarif_known.proofs.order.add_tools.Given as goal

abbrev pub invariant-loop-run : goal.invariant-loop-run
invariant-loop-run l = texts_of l.tools.keys
    ++ once_each (texts_of l.tools.keys) (map (λ run. run.tool) (all_chosen (drop l.run-index l.runs)))
    ≡ texts_of l.initial.tools.keys ++ once_each (texts_of l.initial.tools.keys) (map (λ run. run.tool) (all_chosen l.runs))
