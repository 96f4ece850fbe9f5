-- What lawful arrivals have to do with a collector.
use Rattle.std.specs.Prelude.{◌≡◌, ◌↔◌, ℕ, List, map, replicate, None}
use Rattle.sarif_collect.specs.declared.piece.Piece.{Piece}
use Rattle.sarif_collect.specs.Arriving.{AllAccepted}
use Rattle.sarif_collect.specs.Collecting.{all_after}
use Rattle.sarif_collect.specs.Held.{empty_run, closed_run, first_open}
use Rattle.sarif_collect.specs.Lawful.{IsLawful, assembled}

module _ {T C : Type 0} where
  -- arrivals are lawful if and only if none of them is rejected and they leave no run open
  abbrev pub AreTakenWhereLawful : ℕ → List (Piece T C) → Type 0
  AreTakenWhereLawful runs arrivals =
      IsLawful runs arrivals
      ↔ (AllAccepted (replicate runs empty_run) arrivals
      × (first_open (all_after (replicate runs empty_run) arrivals) ≡ None))

  -- after lawful arrivals each run is closed, and is what they assemble to
  abbrev pub AreAssembled : ℕ → List (Piece T C) → Type 0
  AreAssembled runs arrivals =
      IsLawful runs arrivals
      → all_after (replicate runs empty_run) arrivals ≡ map closed_run (assembled runs arrivals)
