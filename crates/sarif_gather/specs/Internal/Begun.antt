-- What the threads of a gathering begin with.
use Rattle.std.specs.Prelude.{◌≡◌, ℕ, [], Some, slice_get, length}
use Rattle.sarif_collect.specs.declared.piece.Parcel.{Parcel}
use Rattle.sarif_dispatch.specs.declared.mailbox.Mailbox.{Mailbox}
use Rattle.sarif_dispatch.specs.declared.mailbox.ends.Post.{Post}
use Rattle.sarif_dispatch.specs.declared.deal.state.Deal.{Deal}
use Rattle.sarif_dispatch.specs.declared.deal.hand.Hand.{Hand}
use Rattle.sarif_gather.specs.declared.gathering.crew.Crew.{Crew}
use Rattle.sarif_dispatch.specs.Ends.{IsNewPost, IsDeskOf, taken_by}
use Rattle.sarif_dispatch.specs.Hands.{IsHandOf, drawn_by}

-- post k has the number k and sent nothing; a hand drew nothing; there are as many of both; the desk took nothing
pub record AreNewcomers {T C : Type 0} (mailbox : Mailbox (Parcel T C)) (deal : Deal)
    (crew : Crew T C) : Type 0 where
  pub posts : (k : ℕ) (post : Post (Parcel T C)) → slice_get crew.posts.items k ≡ Some post
      → IsNewPost mailbox k post
  pub hands : (i : ℕ) (hand : Hand) → slice_get crew.hands.items i ≡ Some hand
      → IsHandOf deal hand × (drawn_by hand ≡ [])
  pub count : length crew.hands.items ≡ length crew.posts.items
  pub desk : IsDeskOf mailbox crew.desk
  pub taken : taken_by crew.desk ≡ []
