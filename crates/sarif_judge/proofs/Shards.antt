-- The shards together are all places.
use Rattle.std.proofs.Common.{◌≡◌, ◌≤◌, ◌+◌, ◌*◌, ℕ, zero, suc, List, [], ◌++◌, map, length, take, drop, refl, sym, ap, ◌∙◌, arith}
use Rattle.std.specs.Prelude.{⊤}
use Rattle.std.proofs.lemmas.List.{map-append, append-nil, drop-drop, take_all}
use Rattle.std.proofs.lemmas.Grind.{common_steps}
use Rattle.std.proofs.Math.Seq.{take-add}
use Rattle.std.specs.List.{range_with_len, flat_map}
use Rattle.sarif_collect.specs.Held.{Whole}
use Rattle.sarif_collect.specs.Pieces.{lists_of, whole_run}
use Rattle.sarif_entries.specs.File.{File}
use Rattle.sarif_results.specs.declared.outcome.Outcome.{Outcome}
use Rattle.sarif_runs.specs.declared.spots.Spot.{Spot}
use Rattle.sarif_judge.specs.Internal.Flattened.{flattened}
use Rattle.sarif_runs.specs.Placed.{Placed}
use Rattle.sarif_results.specs.Internal.OutcomesAt.{outcome_at, judged_shard}

-- n parts of a list, from part a on
parts : {X Y : Type 0} (f : X → Y) (size : ℕ) (xs : List X) (a n : ℕ)
    → flat_map (λ k. map f (take size (drop (k * size) xs)) ++ []) (range_with_len a n) ≡ map f (take (n * size) (drop (a * size) xs))
parts f size xs a zero = let none : 0 * size ≡ 0 = omega arith in sym (ap (λ k. map f (take k (drop (a * size) xs))) none)
parts f size xs a (suc n) =
    let here = take size (drop (a * size) xs) in
    let after : (a + 1) * size ≡ a * size + size = grind (arith, common_steps) in
    let more : suc n * size ≡ size + n * size = grind (arith, common_steps) in
    ap (λ ys. ys ++ flat_map (λ k. map f (take size (drop (k * size) xs)) ++ []) (range_with_len (a + 1) n)) (append-nil (map f here))
    ∙ ap (λ ys. map f here ++ ys) (parts f size xs (a + 1) n)
    ∙ ap (λ k. map f here ++ map f (take (n * size) (drop k xs))) after
    ∙ ap (λ ys. map f here ++ map f (take (n * size) ys)) (sym (drop-drop size (a * size) xs))
    ∙ sym (map-append f here (take (n * size) (drop size (drop (a * size) xs))))
    ∙ ap (map f) (sym (take-add size (n * size) (drop (a * size) xs)))
    ∙ ap (λ k. map f (take k (drop (a * size) xs))) (sym more)

pub all_parts : (file : File) (runs : List Placed) (size shards : ℕ) (spots : List Spot) (ws : List (Whole (List Outcome) ⊤))
    → ws ≡ lists_of (λ run. 1) (λ run seq. judged_shard file runs size spots run) (λ run. tt) shards → length spots ≤ shards * size
    → flattened ws ≡ map (outcome_at file runs) spots
all_parts file runs size shards spots ws is enough =
    ap flattened is ∙ gathered 0 shards ∙ parts (outcome_at file runs) size spots 0 shards
    ∙ ap (λ k. map (outcome_at file runs) (take (shards * size) (drop k spots))) none
    ∙ ap (map (outcome_at file runs)) (take_all (shards * size) spots enough) where
      none : 0 * size ≡ 0
      none = omega arith

      gathered : (a n : ℕ) → flattened (map (λ run. whole_run 1 (λ seq. judged_shard file runs size spots run) tt) (range_with_len a n))
          ≡ flat_map (λ k. map (outcome_at file runs) (take size (drop (k * size) spots)) ++ []) (range_with_len a n)
      gathered a zero = refl
      gathered a (suc n) = ap (λ os. (judged_shard file runs size spots a ++ []) ++ os) (gathered (a + 1) n)
