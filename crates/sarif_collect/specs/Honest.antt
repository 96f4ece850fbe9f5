-- What the workers of a work send, and what comes of it.
use Rattle.std.specs.Prelude.{◌≡◌, ℕ, ◌<◌, ◌≤◌, List, [], length, replicate, Some, slice_get}
use Rattle.sarif_collect.specs.declared.piece.Parcel.{Parcel}
use Rattle.sarif_collect.specs.Arriving.{AllAccepted}
use Rattle.sarif_dispatch.specs.Claims.{times, total, once_below}
use Rattle.sarif_collect.specs.Held.{empty_run}
use Rattle.sarif_collect.specs.Lawful.{IsLawful, assembled}
use Rattle.sarif_collect.specs.Pieces.{on_run, pieces_of, parcels_of, carried, parcels_in, lists_of}
use Rattle.sarif_dispatch.specs.Senders.{of_sender}

module _ {T C : Type 0} (count : ℕ → ℕ) (item : ℕ → ℕ → T) (end : ℕ → C) where
  -- each run of the work is in one worker's list, once, and no other run is; from each worker the pieces of its
  -- runs and its end arrived, and nothing from anyone else
  pub record AreHonest (runs : ℕ) (shares : List (List ℕ)) (arrived : List (ℕ × Parcel T C))
      : Type 0 where
    pub shared : (run : ℕ) → total (λ share. times run share) shares ≡ once_below run runs
    pub each : (worker : ℕ) (share : List ℕ) → slice_get shares worker ≡ Some share
        → of_sender worker arrived ≡ parcels_of count item end share
    pub strangers : (sender : ℕ) → length shares ≤ sender → of_sender sender arrived ≡ []

  -- the pieces that arrived are lawful, those of each run are the work's in their order, none is rejected, and
  -- they assemble to the work's lists
  pub record AreTaken (runs : ℕ) (arrived : List (ℕ × Parcel T C)) : Type 0 where
    pub lawful : IsLawful runs (carried (parcels_in arrived))
    pub of_run : (run : ℕ) → run < runs
        → on_run run (carried (parcels_in arrived))
        ≡ pieces_of run (item run) (count run) (end run)
    pub accepted : AllAccepted (replicate runs empty_run) (carried (parcels_in arrived))
    pub lists : assembled runs (carried (parcels_in arrived)) ≡ lists_of count item end runs
