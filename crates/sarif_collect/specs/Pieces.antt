-- The pieces of a work's runs, and lists of pieces and parcels.
use Rattle.std.specs.Prelude.{ℕ, ◌+◌, ◌==◌, List, [], ◌∷◌, ◌++◌, map, filter, false}
use Rattle.std.specs.List.{range_with_len, flat_map}
use Rattle.sarif_collect.specs.declared.piece.Piece.{Piece}
use Rattle.sarif_collect.specs.declared.piece.Piece.TheVariants.{Item, Close}
use Rattle.sarif_collect.specs.declared.piece.Parcel.{Parcel}
use Rattle.sarif_collect.specs.declared.piece.Parcel.TheVariants.{Carry, End}
use Rattle.sarif_collect.specs.Held.{Whole}
use Rattle.sarif_collect.specs.Piece.{run_in}

module _ {T C : Type 0} where
  -- the items of a run in the order of their numbers, then its close
  abbrev pub pieces_of : ℕ → (ℕ → T) → ℕ → C → List (Piece T C)
  pieces_of run item count end =
      map (λ seq. Item run seq (item seq)) (range_with_len 0 count) ++ Close run count end ∷ []

  -- the pieces of these runs, one run after the other
  abbrev pub pieces_of_runs : (ℕ → ℕ) → (ℕ → ℕ → T) → (ℕ → C) → List ℕ → List (Piece T C)
  pieces_of_runs count item end runs =
      flat_map (λ run. pieces_of run (item run) (count run) (end run)) runs

  -- what a worker with memory enough sends: the pieces of its runs, then its end
  abbrev pub parcels_of : (ℕ → ℕ) → (ℕ → ℕ → T) → (ℕ → C) → List ℕ → List (Parcel T C)
  parcels_of count item end runs = map Carry (pieces_of_runs count item end runs) ++ End false ∷ []

  -- the pieces in a list of parcels
  abbrev pub carried : List (Parcel T C) → List (Piece T C)
  carried [] = []
  carried (Carry piece ∷ parcels) = piece ∷ carried parcels
  carried (End short ∷ parcels) = carried parcels

  -- the pieces that name the run
  abbrev pub on_run : ℕ → List (Piece T C) → List (Piece T C)
  on_run run pieces = filter (λ piece. run_in piece == run) pieces

  -- what a work's runs are in the end
  abbrev pub whole_run : ℕ → (ℕ → T) → C → Whole T C
  whole_run count item end = record { items = map item (range_with_len 0 count); tail = end }

  abbrev pub lists_of : (ℕ → ℕ) → (ℕ → ℕ → T) → (ℕ → C) → ℕ → List (Whole T C)
  lists_of count item end runs =
      map (λ run. whole_run (count run) (item run) (end run)) (range_with_len 0 runs)

-- the content of a list, without the senders
abbrev pub parcels_in : {P : Type 0} → List (ℕ × P) → List P
parcels_in h = map (λ x. x.1) h

-- how many ends are among the parcels
abbrev pub ends_in : {T C : Type 0} → List (Parcel T C) → ℕ
ends_in [] = 0
ends_in (Carry piece ∷ parcels) = ends_in parcels
ends_in (End short ∷ parcels) = 1 + ends_in parcels
