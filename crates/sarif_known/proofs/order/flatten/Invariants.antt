use Rattle.std.proofs.Common.{◌≡◌, ◌++◌}
use Rattle.std.specs.List.{flat_map}
use Rattle.sarif_known.specs.Chosen.{all_chosen}
use Rattle.sarif_known.specs.Internal.Groups.{groups_of}
use Rattle.sarif_known.proofs.order.flatten.Given as goal

abbrev pub invariant-loop-group : goal.invariant-loop-group
invariant-loop-group l = all_chosen l.runs.items ++ flat_map (λ g. g) (groups_of l.group-iterator.rest.items) ≡ flat_map (λ g. g) (groups_of l.fn.groups.items)
