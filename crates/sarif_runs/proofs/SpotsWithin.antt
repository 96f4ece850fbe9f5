-- Each place is that of a result.
use Rattle.std.proofs.Common.{◌≡◌, ◌<◌, ◌+◌, ℕ, zero, suc, List, [], ◌∷◌, ◌++◌, map, length, append_assoc, refl, sym, ap, ◌∙◌, subst, arith}
use Rattle.std.proofs.Math.Seq.{get_or-append_seam}
use Rattle.std.proofs.lemmas.List.{length-append}
use Rattle.std.proofs.lemmas.List.Elements.{All-append}
use Rattle.std.specs.List.{All, range_with_len}
use Rattle.sarif_model.specs.Run.{results_of}
use Rattle.sarif_runs.specs.declared.spots.Spot.{Spot}
use Rattle.sarif_runs.specs.Placed.{Placed}
use Rattle.sarif_runs.specs.Internal.Spots.{no_run, placed_at, spots_in, spots_from, IsSpotOf}

of_run : (all : List Placed) (n a k : ℕ) → n < length all → a + k ≡ length (results_of (placed_at all n).run)
    → All (IsSpotOf all) (map (λ seq. record { run = n; seq = seq }) (range_with_len a k))
of_run all n a zero below count = λ i d in_list. absurd (omega (arith, in_list))
of_run all n a (suc k) below count =
    let first : Spot = record { run = n; seq = a } in
    All-append (IsSpotOf all) (first ∷ []) (map (λ seq. record { run = n; seq = seq }) (range_with_len (a + 1) k))
    (one first (below, omega (arith, count))) (of_run all n (a + 1) k below (omega (arith, count))) where
      one : (s : Spot) → IsSpotOf all s → All (IsSpotOf all) (s ∷ [])
      one s is zero d in_list = is
      one s is (suc i) d in_list = absurd (omega (arith, in_list))

from : (done rest : List Placed) (n : ℕ) → n ≡ length done → All (IsSpotOf (done ++ rest)) (spots_from n rest)
from done [] n is = λ i d in_list. absurd (omega (arith, in_list))
from done (p ∷ rest) n is =
    let all = done ++ p ∷ rest in
    let count = length (results_of p.run) in
    let here : placed_at all n ≡ p = ap (placed_at all) is ∙ get_or-append_seam done p rest no_run in
    let below : n < length all = omega (arith, is, length-append done (p ∷ rest)) in
    let again : (done ++ p ∷ []) ++ rest ≡ all = append_assoc done (p ∷ []) rest in
    All-append (IsSpotOf all) (spots_in n count) (spots_from (n + 1) rest)
    (of_run all n 0 count below (let same = ap (λ q. length (results_of q.run)) (sym here) in omega (arith, same)))
    (subst (λ ps. All (IsSpotOf ps) (spots_from (n + 1) rest)) again (from (done ++ p ∷ []) rest (n + 1) (omega (arith, is, length-append done (p ∷ [])))))

pub spots_within : (runs : List Placed) → All (IsSpotOf runs) (spots_from 0 runs)
spots_within runs = from [] runs 0 refl
