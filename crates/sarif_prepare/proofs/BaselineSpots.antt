-- The spots of the results that have a record, in runs of baselines without errors.
use Rattle.std.proofs.Common.{◌≡◌, ℕ, zero, suc, ◌+◌, Bool, true, false, ◌&&◌, not, cond, if◌then◌else◌, List, [], ◌∷◌, ◌++◌, map, length, drop, append_assoc, Result, Ok, Err, refl, sym, ap, ◌∙◌, arith}
use Rattle.std.proofs.Math.Seq.{get_or-append_seam}
use Rattle.std.proofs.lemmas.List.{map-append, drop_all, drop_more, length-map, length-append}
use Rattle.std.proofs.lemmas.List.Elements.{All-cons, All-drop, All-nil}
use Rattle.std.specs.List.{All, AllByRecursion, flat_map, range_with_len}
use Rattle.serde_json.specs.Data.{Data, null}
use Rattle.sarif_model.specs.declared.fault.Fault.{Fault}
use Rattle.sarif_model.specs.declared.record.Record.{Record}
use Rattle.sarif_model.specs.Run.{results_of, result_at, is_absent_result}
use Rattle.sarif_runs.specs.Record.{record_of}
use Rattle.sarif_model.specs.declared.merge_fault.At.{At}
use Rattle.sarif_model.specs.declared.merge_fault.At.TheVariants.{Single}
use Rattle.sarif_runs.specs.declared.item.Item.{Item}
use Rattle.sarif_runs.specs.declared.item.Item.TheVariants.{Sound, Bad, Skipped}
use Rattle.sarif_runs.specs.declared.spots.Spot.{Spot}
use Rattle.sarif_runs.specs.Judging.{skips, item_by, item_of, items_of, opening_fault, first_bad, run_faults, faults_of_runs, run_values}
use Rattle.sarif_prepare.specs.Internal.Leftover.{found_at}
use Rattle.sarif_runs.specs.Placed.{Placed}
use Rattle.sarif_runs.specs.Internal.Spots.{no_run, placed_at, spots_in, spots_from}
use Rattle.sarif_log.specs.Internal.Texts.{present_results}
use Rattle.sarif_model.specs.Run.{present}
use Rattle.sarif_prepare.specs.Internal.Telling.{pair_at, present_in, with_run}
use Rattle.sarif_prepare.specs.Internal.Baselines.{with_spot, spots_with_record}
use Rattle.sarif_results.proofs.JudgedCounts.{no_fault, no_faults_here, no_faults_left}

-- ---- what is true for all spots is true for these

one_within : (P : Spot → Type 0) (item : Item) (spot : Spot) (spots : List Spot) → P spot → All P spots → All P (with_spot item spot spots)
one_within P (Sound r) spot spots here rest = All-cons P spot spots here rest
one_within P (Bad fault) spot spots here rest = rest
one_within P Skipped spot spots here rest = rest

pub recorded_within : (P : Spot → Type 0) (items : List Item) (spots : List Spot) → All P spots → All P (spots_with_record items spots)
recorded_within P [] spots all = All-nil P
recorded_within P (item ∷ items) [] all = All-nil P
recorded_within P (item ∷ items) (spot ∷ spots) all =
    one_within P item spot (spots_with_record items spots) (all 0 spot (omega arith)) (recorded_within P items spots (All-drop P 1 (spot ∷ spots) all))

-- ---- one list after another

seam : (is js : List Item) (ss ts : List Spot) → length is ≡ length ss
    → spots_with_record (is ++ js) (ss ++ ts) ≡ spots_with_record is ss ++ spots_with_record js ts
seam [] js [] ts same = refl
seam [] js (s ∷ ss) ts same = absurd (omega (arith, same))
seam (i ∷ is) js [] ts same = absurd (omega (arith, same))
seam (i ∷ is) js (s ∷ ss) ts same = one i (seam is js ss ts (omega (arith, same))) where
  one : (item : Item) → spots_with_record (is ++ js) (ss ++ ts) ≡ spots_with_record is ss ++ spots_with_record js ts
      → with_spot item s (spots_with_record (is ++ js) (ss ++ ts)) ≡ with_spot item s (spots_with_record is ss) ++ spots_with_record js ts
  one (Sound r) rest = ap (λ xs. s ∷ xs) rest
  one (Bad fault) rest = rest
  one Skipped rest = rest

-- ---- the results at these places

one : {X : Type 0} (f : Spot → X) (g : Data → X) (skip absent : Bool) (found : Result Record Fault) (at : ℕ → At) (n : ℕ) (items : List Item)
    (spot : Spot) (spots : List Spot) (d : Data) (rest : List Data)
    → skip ≡ true → f spot ≡ g d
    → first_bad at n ((if skip && absent then Skipped else item_by found) ∷ items) ≡ []
    → (first_bad at (n + 1) items ≡ [] → map f spots ≡ map g rest)
    → map f (with_spot (if skip && absent then Skipped else item_by found) spot spots) ≡ map g (cond (not absent) (d ∷ rest) rest)
one f g false absent found at n items spot spots d rest skips is sound more = cc
one f g true true found at n items spot spots d rest skips is sound more = more sound
one f g true false (Ok r) at n items spot spots d rest skips is sound more = ap (λ x. x ∷ map f spots) is ∙ ap (λ xs. g d ∷ xs) (more sound)
one f g true false (Err fault) at n items spot spots d rest skips is sound more = cc

many : (all : List Placed) (p : Placed) (run : ℕ) (at : ℕ → At) (n a m : ℕ) → placed_at all run ≡ p → skips p.source ≡ true → a + m ≡ length (results_of p.run)
    → first_bad at n (map (item_of p) (range_with_len a m)) ≡ []
    → map (pair_at all) (spots_with_record (map (item_of p) (range_with_len a m)) (map (λ seq. record { run = run; seq = seq }) (range_with_len a m)))
    ≡ with_run p.run (present (drop a (results_of p.run)))
many all p run at n a zero is skip whole sound =
    sym (ap (λ ds. with_run p.run (present ds)) (drop_all a (results_of p.run) (omega (arith, whole))))
many all p run at n a (suc m) is skip whole sound =
    let rest = drop (a + 1) (results_of p.run) in
    one (pair_at all) (λ d. (p.run, d)) (skips p.source) (is_absent_result (result_at p.run a)) (record_of p.options.records p.run a) at n
    (map (item_of p) (range_with_len (a + 1) m))
    (record { run = run; seq = a })
    (spots_with_record (map (item_of p) (range_with_len (a + 1) m)) (map (λ seq. record { run = run; seq = seq }) (range_with_len (a + 1) m)))
    (result_at p.run a) (present rest) skip (ap (λ q. (q.run, result_at q.run a)) is) sound
    (many all p run at (n + 1) (a + 1) m is skip (omega (arith, whole)))
    ∙ sym (ap (λ ds. with_run p.run (present ds)) (drop_more (results_of p.run) a null (omega (arith, whole))))

of_run : (all : List Placed) (p : Placed) (run : ℕ) → placed_at all run ≡ p → skips p.source ≡ true → run_faults p ≡ []
    → map (pair_at all) (spots_with_record (items_of p) (spots_in run (length (results_of p.run)))) ≡ present_in p.run
of_run all p run is skip sound =
    many all p run (Single p.source p.number) 0 0 (length (results_of p.run)) is skip (omega arith)
    (no_fault p.source p.number (opening_fault p) (items_of p) sound)

items_long : (p : Placed) (run : ℕ) → length (items_of p) ≡ length (spots_in run (length (results_of p.run)))
items_long p run =
    length-map (range_with_len 0 (length (results_of p.run))) (item_of p)
    ∙ sym (length-map (range_with_len 0 (length (results_of p.run))) (λ seq. record { run = run; seq = seq }))

from : (done rest : List Placed) (n : ℕ) → n ≡ length done → AllByRecursion (λ p. skips p.source ≡ true) rest → faults_of_runs rest ≡ []
    → map (pair_at (done ++ rest)) (spots_with_record (flat_map items_of rest) (spots_from n rest)) ≡ flat_map present_in (run_values rest)
from done [] n is skip sound = refl
from done (p ∷ rest) n is skip sound =
    let all = done ++ p ∷ rest in
    let here : placed_at all n ≡ p = ap (placed_at all) is ∙ get_or-append_seam done p rest no_run in
    let again : (done ++ p ∷ []) ++ rest ≡ all = append_assoc done (p ∷ []) rest in
    let these = spots_in n (length (results_of p.run)) in
    let later = spots_from (n + 1) rest in
    ap (map (pair_at all)) (seam (items_of p) (flat_map items_of rest) these later (items_long p n))
    ∙ map-append (pair_at all) (spots_with_record (items_of p) these) (spots_with_record (flat_map items_of rest) later)
    ∙ ap (λ ds. ds ++ map (pair_at all) (spots_with_record (flat_map items_of rest) later))
    (of_run all p n here skip.0 (no_faults_here (run_faults p) (faults_of_runs rest) sound))
    ∙ ap (λ ps. present_in p.run ++ map (pair_at ps) (spots_with_record (flat_map items_of rest) later)) (sym again)
    ∙ ap (λ ds. present_in p.run ++ ds)
    (from (done ++ p ∷ []) rest (n + 1) (omega (arith, is, length-append done (p ∷ []))) skip.1
    (no_faults_left (run_faults p) (faults_of_runs rest) sound))

pub pairs_at_spots : (runs : List Placed) → AllByRecursion (λ p. skips p.source ≡ true) runs → faults_of_runs runs ≡ []
    → map (pair_at runs) (spots_with_record (flat_map items_of runs) (spots_from 0 runs)) ≡ flat_map present_in (run_values runs)
pairs_at_spots runs skip sound = from [] runs 0 refl skip sound

-- ---- without their runs

abbrev second : Data × Data → Data
second p = p.1

pub results_with : (run : Data) (ds : List Data) → map second (with_run run ds) ≡ ds
results_with run [] = refl
results_with run (d ∷ ds) = ap (λ xs. d ∷ xs) (results_with run ds)

results_in : (runs : List Data) → map second (flat_map present_in runs) ≡ present_results runs
results_in [] = refl
results_in (run ∷ runs) =
    map-append second (present_in run) (flat_map present_in runs)
    ∙ ap (λ ds. ds ++ map second (flat_map present_in runs)) (results_with run (present (results_of run)))
    ∙ ap (λ ds. present (results_of run) ++ ds) (results_in runs)

pub results_at : (runs : List Placed) (spots : List Spot) → map second (map (pair_at runs) spots) ≡ map (found_at runs) spots
results_at runs [] = refl
results_at runs (spot ∷ spots) = ap (λ ds. found_at runs spot ∷ ds) (results_at runs spots)

pub found_at_pairs : (runs : List Placed) (spots : List Spot) → map (pair_at runs) spots ≡ flat_map present_in (run_values runs)
    → map (found_at runs) spots ≡ present_results (run_values runs)
found_at_pairs runs spots pairs = sym (results_at runs spots) ∙ ap (map second) pairs ∙ results_in (run_values runs)

pub all_long : (runs : List Placed) (n : ℕ) → length (flat_map items_of runs) ≡ length (spots_from n runs)
all_long [] n = refl
all_long (p ∷ runs) n =
    length-append (items_of p) (flat_map items_of runs) ∙ ap (λ k. k + length (flat_map items_of runs)) (items_long p n)
    ∙ ap (λ k. length (spots_in n (length (results_of p.run))) + k) (all_long runs (n + 1))
    ∙ sym (length-append (spots_in n (length (results_of p.run))) (spots_from (n + 1) runs))
