-- The drafts that were made of the results of faultless runs.
use Rattle.std.proofs.Common.{◌≡◌, ℕ, ◌+◌, List, [], ◌∷◌, ◌++◌, map, length, take, drop, ◌≤◌, refl, sym, ap, ◌∙◌, arith}
use Rattle.std.proofs.Math.Seq.{take-append_seam, drop-append_seam}
use Rattle.std.proofs.lemmas.List.FromFn.{length-range_with_len}
use Rattle.std.proofs.lemmas.List.{map-append, length-map, length-append, take-map, drop-map}
use Rattle.std.specs.List.{range_with_len, flat_map}
use Rattle.sarif_model.specs.Run.{results_of}
use Rattle.sarif_entries.specs.File.{File}
use Rattle.sarif_runs.specs.declared.item.Item.{Item}
use Rattle.sarif_runs.specs.declared.item.Item.TheVariants.{Sound, Bad, Skipped}
use Rattle.sarif_results.specs.declared.outcome.Outcome.{Outcome}
use Rattle.sarif_runs.specs.Judging.{with_record, item_of, items_of, records_in, records_of}
use Rattle.sarif_results.specs.Internal.Outcomes.{all_outcomes, outcome_of, outcomes_of}
use Rattle.sarif_runs.specs.Placed.{Placed}

-- the items among outcomes
items_made : (file : File) (p : Placed) (seqs : List ℕ) → map (λ o. o.item) (map (outcome_of file p) seqs) ≡ map (item_of p) seqs
items_made file p [] = refl
items_made file p (seq ∷ seqs) = ap (λ xs. item_of p seq ∷ xs) (items_made file p seqs)

pub items_of_outcomes : (file : File) (p : Placed) → map (λ o. o.item) (outcomes_of file p) ≡ items_of p
items_of_outcomes file p = items_made file p (range_with_len 0 (length (results_of p.run)))

pub all_items : (file : File) (ps : List Placed) → map (λ o. o.item) (all_outcomes file ps) ≡ flat_map items_of ps
all_items file [] = refl
all_items file (p ∷ ps) =
    map-append (λ (o : Outcome). o.item) (outcomes_of file p) (all_outcomes file ps)
    ∙ ap (λ xs. xs ++ map (λ o. o.item) (all_outcomes file ps)) (items_of_outcomes file p)
    ∙ ap (λ xs. items_of p ++ xs) (all_items file ps)

records_append : (xs ys : List Item) → records_in (xs ++ ys) ≡ records_in xs ++ records_in ys
records_append [] ys = refl
records_append (x ∷ xs) ys = one_more x (records_append xs ys) where
  one_more : (i : Item) → records_in (xs ++ ys) ≡ records_in xs ++ records_in ys
      → with_record i (records_in (xs ++ ys)) ≡ with_record i (records_in xs) ++ records_in ys
  one_more (Sound r) rest = ap (λ rs. r ∷ rs) rest
  one_more (Bad fault) rest = rest
  one_more Skipped rest = rest

pub all_records : (file : File) (ps : List Placed) → records_in (map (λ o. o.item) (all_outcomes file ps)) ≡ records_of ps
all_records file [] = refl
all_records file (p ∷ ps) =
    ap records_in (map-append (λ (o : Outcome). o.item) (outcomes_of file p) (all_outcomes file ps))
    ∙ records_append (map (λ o. o.item) (outcomes_of file p)) (map (λ o. o.item) (all_outcomes file ps))
    ∙ ap (λ xs. records_in xs ++ records_in (map (λ o. o.item) (all_outcomes file ps))) (items_of_outcomes file p)
    ∙ ap (λ rs. records_in (items_of p) ++ rs) (all_records file ps)

items_long : (p : Placed) → length (items_of p) ≡ length (results_of p.run)
items_long p = length-map (range_with_len 0 (length (results_of p.run))) (item_of p) ∙ length-range_with_len 0 (length (results_of p.run))

-- the items of the first run, and those of the others
pub items_cut : (os : List Outcome) (p : Placed) (ps : List Placed) (n : ℕ) → map (λ o. o.item) os ≡ flat_map items_of (p ∷ ps) → n ≡ length (results_of p.run)
    → (n ≤ length os) × (map (λ o. o.item) (take n os) ≡ items_of p) × (map (λ o. o.item) (drop n os) ≡ flat_map items_of ps)
items_cut os p ps n are is =
    let item : Outcome → Item = λ o. o.item in
    let rest = flat_map items_of ps in
    let same : n ≡ length (items_of p) = is ∙ sym (items_long p) in
    let long : length os ≡ length (items_of p) + length rest = sym (length-map os item) ∙ ap length are ∙ length-append (items_of p) rest in (
      omega (arith, same, long),
      sym (take-map item n os) ∙ ap (take n) are ∙ ap (λ k. take k (items_of p ++ rest)) same ∙ take-append_seam (items_of p) rest,
      sym (drop-map item n os) ∙ ap (drop n) are ∙ ap (λ k. drop k (items_of p ++ rest)) same ∙ drop-append_seam (items_of p) rest,
    )
