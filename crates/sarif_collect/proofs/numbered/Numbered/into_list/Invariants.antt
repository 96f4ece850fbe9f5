use Rattle.std.proofs.Common.{◌≡◌, ◌+◌, ◌≤◌, ◌++◌, map, length, vec_len}
use Rattle.std.specs.Vec.{vec_capacity}
use Rattle.sarif_collect.proofs.numbered.Numbered.into_list.Given as goal

abbrev pub invariant-loop-body : goal.invariant-loop-body
invariant-loop-body g l =
    (goal.iterator-loop-body g).can_next l.body-iterator × (goal.iterator-loop-body g).is_finite l.body-iterator
    × (l.row.items ++ map (λ e. e.1) l.body-iterator ≡ l.initial.row.items ++ map (λ e. e.1) l.initial.body-iterator)
    × (vec_len l.row + length l.body-iterator ≤ vec_capacity l.row)
