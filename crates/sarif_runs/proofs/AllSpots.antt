-- The places of all results are those of results, and as many as there are.
use Rattle.std.proofs.Common.{◌≡◌, ◌<◌, ◌≤◌, ◌+◌, ◌*◌, ◌/◌, ◌^◌, ℕ, List, [], ◌∷◌, map, length, refl, sym, ap, ◌∙◌, subst, arith, mul_comm}
use Rattle.std.proofs.lemmas.Nat.{mul-add-lt}
use Rattle.std.proofs.Math.Nat.{mul-suc, div-le_self, div-lt_iff_lt-mul, lt-mul-div-succ}
use Rattle.std.proofs.lemmas.List.{length-append, length-map}
use Rattle.std.proofs.lemmas.List.FromFn.{length-range_with_len}
use Rattle.std.specs.List.{range_with_len}
use Rattle.sarif_model.specs.Limits.{most_results}
use Rattle.sarif_model.specs.Run.{results_of, results_total}
use Rattle.sarif_runs.specs.declared.spots.Spot.{Spot}
use Rattle.sarif_runs.specs.Placed.{Placed}
use Rattle.sarif_runs.specs.Internal.Spots.{spots_in, spots_from}

spots_count_in : (run count : ℕ) → length (spots_in run count) ≡ count
spots_count_in run count = length-map (range_with_len 0 count) (λ seq. record { run = run; seq = seq }) ∙ length-range_with_len 0 count

pub spots_count : (n : ℕ) (runs : List Placed) → length (spots_from n runs) ≡ results_total (map (λ p. p.run) runs)
spots_count n [] = refl
spots_count n (p ∷ runs) =
    length-append (spots_in n (length (results_of p.run))) (spots_from (n + 1) runs)
    ∙ ap (λ k. k + length (spots_from (n + 1) runs)) (spots_count_in n (length (results_of p.run)))
    ∙ ap (λ k. length (results_of p.run) + k) (spots_count (n + 1) runs)

-- ---- sizes of shards

pub shard_size : (n parts size : ℕ) → n ≤ most_results → size ≡ n / parts + 1 → size ≤ most_results + 1
shard_size n parts size few is = let h = div-le_self n parts in omega (arith, few, is, h)

pub shard_count : (n parts size shards : ℕ) → 0 < parts → size ≡ n / parts + 1 → shards ≡ n / size + 1 → shards ≤ parts
shard_count n parts size shards some is shards_is =
    let pos : 0 < size = omega (arith, is) in
    let below : n < parts * size = subst (λ k. n < parts * k) (sym is) (lt-mul-div-succ n some) in
    let q : n / size < parts = (div-lt_iff_lt-mul pos).1 below in
    omega (arith, q, shards_is)

pub shards_enough : (n size shards : ℕ) → 0 < size → shards ≡ n / size + 1 → n ≤ shards * size
shards_enough n size shards pos is =
    let below : n < size * (n / size + 1) = lt-mul-div-succ n pos in
    let turned : size * (n / size + 1) ≡ shards * size = mul_comm size (n / size + 1) ∙ ap (λ k. k * size) (sym is) in
    omega (arith, below, turned)

pub product_fits : (k size : ℕ) → k < 2 ^ 32 → size ≤ most_results + 1 → k * size < 2 ^ 64
product_fits k size few small = let h = mul-add-lt k (size + 1) 0 (2 ^ 32) few (omega arith) in let e = mul-suc k size in omega (arith, h, e, small)

pub none_long : (spots : List Spot) → length spots ≡ 0 → spots ≡ []
none_long [] none = refl
none_long (spot ∷ spots) none = absurd (omega (arith, none))
