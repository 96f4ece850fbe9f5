use Rattle.std.proofs.Common.{◌≡◌, ◌++◌}
use Rattle.sarif_share.specs.Sharing.{AreJoined}
use Rattle.sarif_share.proofs.sharing.join_lists.Given as goal

abbrev pub invariant-loop-list : goal.invariant-loop-list
invariant-loop-list g l =
    (parts : l.fn.lists.items ≡ l.yielded ++ l.list-iterator.rest.items)
    × AreJoined (λ list. list.items) l.yielded l.all.items
