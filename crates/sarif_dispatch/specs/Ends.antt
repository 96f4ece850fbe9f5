-- The meaning of a mailbox and its ends.
use Rattle.std.specs.Prelude.{◌≡◌, ℕ, ◌<◌, ◌≤◌, List, [], length, Some, slice_get}
use Rattle.crossbeam_queue.specs.Passes.{view, IsPassOf, ruled_capacity}
use Rattle.sarif_dispatch.specs.declared.mailbox.Mailbox.{Mailbox}
use Rattle.sarif_dispatch.specs.declared.mailbox.ends.Post.{Post}
use Rattle.sarif_dispatch.specs.declared.mailbox.ends.Desk.{Desk}
use Rattle.sarif_dispatch.specs.Senders.{of_sender}
use Rattle.sarif_dispatch.specs.Delivery.{taken_in, made_in, settled_in, sent_in}

module _ {P : Type 0} where
  abbrev pub number_of : Post P → ℕ
  number_of post = post.number

  -- what the post sent, in its order
  abbrev pub sent_by : Post P → List P
  sent_by post = sent_in (view post.pass)

  -- what the desk took, in its order, each with its sender
  abbrev pub taken_by : Desk P → List (ℕ × P)
  taken_by desk = taken_in (view desk.pass)

  -- a post of this mailbox
  abbrev pub IsPostOf : Mailbox P → Post P → Type 0
  IsPostOf mailbox post = IsPassOf mailbox.line post.pass

  -- the desk of this mailbox
  pub record IsDeskOf (mailbox : Mailbox P) (desk : Desk P) : Type 0 where
    pub pass : IsPassOf mailbox.line desk.pass
    pub made : made_in (view desk.pass) ≡ mailbox.senders
    pub settled : settled_in (view desk.pass) ≡ []

  -- post k of a new mailbox: it has the number k, and sent nothing
  pub record IsNewPost (mailbox : Mailbox P) (k : ℕ) (end : Post P) : Type 0 where
    pub post : IsPostOf mailbox end
    pub number : number_of end ≡ k
    pub sent : sent_by end ≡ []

  -- a new mailbox with this room for this many senders, its posts and its desk
  pub record AreNew (room senders : ℕ) (mailbox : Mailbox P) (posts : List (Post P))
      (desk : Desk P) : Type 0 where
    pub room_is : ruled_capacity mailbox.line ≡ room
    pub senders_are : mailbox.senders ≡ senders
    pub desk_is : IsDeskOf mailbox desk
    pub taken : taken_by desk ≡ []
    pub count : length posts ≡ senders
    pub each : (k : ℕ) (post : Post P) → slice_get posts k ≡ Some post → IsNewPost mailbox k post

  -- what the taker notes of a post that came back
  abbrev pub returned : Post P → ℕ × List P
  returned post = (number_of post, sent_by post)

  -- these posts are of this mailbox, and each sender's is among them
  pub record AreAllPosts (mailbox : Mailbox P) (posts : List (Post P)) : Type 0 where
    pub each : (i : ℕ) (post : Post P) → slice_get posts i ≡ Some post → IsPostOf mailbox post
    pub all : (k : ℕ) → k < mailbox.senders
        → (i : ℕ) × (post : Post P) × (slice_get posts i ≡ Some post) × (number_of post ≡ k)

  -- from each post's sender everything that it sent arrived, once and in order, and nothing from anyone else
  pub record AreWhole (mailbox : Mailbox P) (posts : List (Post P)) (arrived : List (ℕ × P))
      : Type 0 where
    pub each : (i : ℕ) (post : Post P) → slice_get posts i ≡ Some post
        → of_sender (number_of post) arrived ≡ sent_by post
    pub strangers : (k : ℕ) → mailbox.senders ≤ k → of_sender k arrived ≡ []
