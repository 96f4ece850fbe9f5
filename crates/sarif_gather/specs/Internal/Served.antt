-- What a worker returns.
use Rattle.std.specs.Prelude.{◌≡◌, ℕ, true}
use Rattle.std.specs.Bool.{OnFalse}
use Rattle.sarif_collect.specs.declared.piece.Parcel.{Parcel}
use Rattle.sarif_dispatch.specs.declared.mailbox.Mailbox.{Mailbox}
use Rattle.sarif_dispatch.specs.declared.deal.state.Deal.{Deal}
use Rattle.sarif_gather.specs.declared.gathering.worker.Back.{Back}
use Rattle.sarif_dispatch.specs.Ends.{IsPostOf, number_of, sent_by}
use Rattle.sarif_dispatch.specs.Hands.{IsHandOf, drawn_by, is_marked}
use Rattle.sarif_collect.specs.Pieces.{parcels_of}

module _ {T C : Type 0} (count : ℕ → ℕ) (item : ℕ → ℕ → T) (end : ℕ → C) where
  -- a worker's post and hand: with memory enough, it sent its runs and its end, and found no run left
  pub record IsServed (mailbox : Mailbox (Parcel T C)) (deal : Deal) (worker : ℕ)
      (back : Back (Parcel T C)) : Type 0 where
    pub post_of : IsPostOf mailbox back.post
    pub number : number_of back.post ≡ worker
    pub hand_of : IsHandOf deal back.hand
    pub all : OnFalse back.short ((is_marked back.hand ≡ true)
        × (sent_by back.post ≡ parcels_of count item end (drawn_by back.hand)))
