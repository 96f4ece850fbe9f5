use Rattle.std.proofs.Common.{◌≡◌, ◌+◌, ◌≤◌, ◌++◌, map, length, vec_len}
use Rattle.std.specs.Vec.{vec_capacity}
use Rattle.std.specs.Vec.Iter.{into_iter_items}
use Rattle.sarif_gather.proofs.gathering.split_backs.Given as goal

abbrev pub invariant-loop-back : goal.invariant-loop-back
invariant-loop-back g l =
    (goal.iterator-loop-back g).can_next l.back-iterator × (goal.iterator-loop-back g).is_finite l.back-iterator
    × (l.posts.items ≡ map (λ b. b.post) l.yielded) × (l.hands.items ≡ map (λ b. b.hand) l.yielded)
    × (l.fn.backs.items ≡ l.yielded ++ into_iter_items l.back-iterator) × (vec_len l.posts + length (into_iter_items l.back-iterator) ≤ vec_capacity l.posts)
    × (vec_len l.hands + length (into_iter_items l.back-iterator) ≤ vec_capacity l.hands)
