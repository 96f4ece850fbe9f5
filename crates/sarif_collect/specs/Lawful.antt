-- Lawful arrivals, and what they assemble to.
use Rattle.std.specs.Prelude.{◌≡◌, ℕ, ◌<◌, ◌≤◌, ◌==◌, nat_lt, if◌then◌else◌, List, [], ◌∷◌, ◌++◌, map, filter, length}
use Rattle.std.specs.List.{range_with_len, flat_map}
use Rattle.sarif_collect.specs.declared.piece.Piece.{Piece}
use Rattle.sarif_collect.specs.declared.piece.Piece.TheVariants.{Item, Close}
use Rattle.sarif_collect.specs.Held.{Whole}
use Rattle.sarif_collect.specs.Pieces.{on_run}

module _ {T : Type 0} where
  -- the bodies with this number
  abbrev pub bodies_at : ℕ → List (ℕ × T) → List T
  bodies_at k bodies = map (λ b. b.1) (filter (λ b. b.0 == k) bodies)

  -- the bodies in the order of their numbers, from 0 on
  abbrev pub in_order : List (ℕ × T) → List T
  in_order bodies = flat_map (λ k. bodies_at k bodies) (range_with_len 0 (length bodies))

module _ {T C : Type 0} where
  -- the numbered bodies of the items among the pieces
  abbrev pub bodies_in : List (Piece T C) → List (ℕ × T)
  bodies_in [] = []
  bodies_in (Item run seq body ∷ pieces) = (seq, body) ∷ bodies_in pieces
  bodies_in (Close run count tail ∷ pieces) = bodies_in pieces

  -- the tails of the closes among the pieces
  abbrev pub tails_in : List (Piece T C) → List C
  tails_in [] = []
  tails_in (Item run seq body ∷ pieces) = tails_in pieces
  tails_in (Close run count tail ∷ pieces) = tail ∷ tails_in pieces

  -- a run's own pieces are lawful: items, and after all of them one close, whose count is their number; each number
  -- below that is one item's, and no other is
  pub record IsLawfulRun (run : ℕ) (pieces : List (Piece T C)) : Type 0 where
    pub bodies : List (ℕ × T)
    pub tail : C
    pub order : pieces ≡ map (λ b. Item run b.0 b.1) bodies ++ Close run (length bodies) tail ∷ []
    pub numbers : (k : ℕ)
        → length (bodies_at k bodies) ≡ (if nat_lt k (length bodies) then 1 else 0)

  -- arrivals are lawful: no piece is of a run that isn't one of these, and each run's own pieces are lawful
  pub record IsLawful (runs : ℕ) (arrivals : List (Piece T C)) : Type 0 where
    pub strangers : (run : ℕ) → runs ≤ run → on_run run arrivals ≡ []
    pub each : (run : ℕ) → run < runs → IsLawfulRun run (on_run run arrivals)

  -- what the pieces of one run assemble to, for each close: at place i the body with number i, and the tail of the
  -- close
  abbrev pub assembled_run : List (Piece T C) → List (Whole T C)
  assembled_run pieces =
      map (λ tail. record { items = in_order (bodies_in pieces); tail = tail }) (tails_in pieces)

  -- what arrivals assemble to, run by run
  abbrev pub assembled : ℕ → List (Piece T C) → List (Whole T C)
  assembled runs arrivals =
      flat_map (λ run. assembled_run (on_run run arrivals)) (range_with_len 0 runs)
