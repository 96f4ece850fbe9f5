use Rattle.std.proofs.Common.{◌≡◌, ◌+◌, ◌≤◌, ℕ, [], length, vec_len, Some}
use Rattle.std.specs.Prelude.{slice_get}
use Rattle.std.specs.Vec.{vec_capacity}
use Rattle.std.specs.Vec.Iter.{into_iter_items}
use Rattle.sarif_dispatch.specs.Ends.{IsNewPost}
use Rattle.sarif_dispatch.specs.Hands.{IsHandOf, drawn_by}
use Rattle.sarif_gather.proofs.gathering.start_all.Given as goal

abbrev pub invariant-loop-post : goal.invariant-loop-post
invariant-loop-post g l =
    (goal.iterator-loop-post g).can_next l.post-iterator × (goal.iterator-loop-post g).is_finite l.post-iterator × (vec_len l.handles ≡ length l.yielded)
    × (vec_len l.hands ≡ length (into_iter_items l.post-iterator)) × (vec_len l.handles + length (into_iter_items l.post-iterator) ≤ vec_capacity l.handles)
    × ((i : ℕ) (post : _) → slice_get (into_iter_items l.post-iterator) i ≡ Some post → IsNewPost l.place.mailbox.now (length l.yielded + i) post)
    × ((i : ℕ) (hand : _) → slice_get l.hands.items i ≡ Some hand → IsHandOf l.place.deal.now hand × (drawn_by hand ≡ []))
    × ((k : ℕ) (h : _) → slice_get l.handles.items k ≡ Some h → (h.promise.place.now ≡ l.place) × (h.promise.worker ≡ k))
