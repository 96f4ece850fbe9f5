-- What the calling thread has once all workers are joined.
use Rattle.std.specs.Prelude.{◌≡◌, ℕ, false, List, Some, slice_get, length}
use Rattle.sarif_collect.specs.declared.piece.Parcel.{Parcel}
use Rattle.sarif_dispatch.specs.declared.mailbox.Mailbox.{Mailbox}
use Rattle.sarif_dispatch.specs.declared.deal.state.Deal.{Deal}
use Rattle.sarif_gather.specs.declared.gathering.Gathered.{Gathered}
use Rattle.sarif_gather.specs.declared.gathering.worker.Back.{Back}
use Rattle.sarif_collect.specs.Collecting.{all_after}
use Rattle.sarif_dispatch.specs.Ends.{IsDeskOf, taken_by}
use Rattle.sarif_collect.specs.Held.{Held}
use Rattle.sarif_collect.specs.Pieces.{carried, ends_in, parcels_in}
use Rattle.sarif_gather.specs.Internal.Served.{IsServed}

module _ {T C : Type 0} (count : ℕ → ℕ) (item : ℕ → ℕ → T) (end : ℕ → C) where
  -- each worker sent all of its runs, and an end of each was received; the collector accepted everything that was
  -- received
  pub record IsGathered (mailbox : Mailbox (Parcel T C)) (deal : Deal) (before : List (Held T C))
      (workers : ℕ) (g : Gathered T C) : Type 0 where
    pub desk_of : IsDeskOf mailbox g.desk
    pub ends : ends_in (parcels_in (taken_by g.desk)) ≡ workers
    pub collected : g.collector ≡ all_after before (carried (parcels_in (taken_by g.desk)))
    pub backs : length g.backs.items ≡ workers
    pub each : (k : ℕ) (back : Back (Parcel T C)) → slice_get g.backs.items k ≡ Some back
        → IsServed count item end mailbox deal k back × (back.short ≡ false)
