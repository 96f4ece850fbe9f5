-- The absent results of a merge whose baseline is a known log.
use Rattle.std.proofs.Common.{◌≡◌, ℕ, Bool, true, false, cond, not, List, [], ◌∷◌, ◌++◌, map, length, take, drop, Option, codes, refl, sym, ap, ap₂, subst, ◌∙◌, if◌then◌else◌}
use Rattle.std.specs.Prelude.{Result, Ok, Err, flat_map, option_and_then}
use Rattle.std.specs.List.{AllZip}
use Rattle.std.proofs.Math.Seq.{drop-append_seam, take-append_seam}
use Rattle.serde_json.specs.Data.{Data, array, object, Members}
use Rattle.serde_json.specs.Find.{as_array}
use Rattle.serde_json.specs.View.{items_of}
use Rattle.serde_json.proofs.Views.{get_member-put}
use Rattle.sarif_model.specs.declared.fault.Fault.{Fault}
use Rattle.sarif_model.specs.declared.fault.Fault.TheVariants.{AbsentInput}
use Rattle.sarif_model.specs.declared.record.Record.{Record}
use Rattle.sarif_model.specs.Run.{elements_or_none, is_absent_result, present, results_of}
use Rattle.sarif_model.proofs.Elements.{items_back}
use Rattle.sarif_known.specs.Chosen.{Chosen}
use Rattle.sarif_known.specs.KnownResult.{known_result, members_from}
use Rattle.sarif_known.specs.KnownRun.{base_alone, known_run, next_number, results_from, run_rows}
use Rattle.sarif_known.specs.Selected.{unmatched_of}
use Rattle.sarif_known.proofs.KnownParts.{present_is}
use Rattle.sarif_known.proofs.RecordBack.{number_for}
use Rattle.sarif_known.proofs.RunBack.{count_is, results_are}
use Rattle.sarif_log.specs.MergedRuns.{absent_runs, bare, if_any, unmatched}
use Rattle.sarif_laws.specs.Adopting.{IsAbsentOf}
use Rattle.sarif_laws.proofs.ByTool.{records_among}

-- ---- a known result isn't absent

by_check : (b : Bool) → ◌≡◌ {A = Result (Unit {0}) Fault} (if b then Err AbsentInput else Ok tt) (Ok tt) → b ≡ false
by_check true is = let never : ⊥ = cc in absurd never
by_check false is = refl

not_absent : (r : Record) (artifact : Option ℕ) → is_absent_result (known_result r artifact) ≡ false
not_absent r artifact = by_check (is_absent_result (known_result r artifact)) (present_is r artifact)

all_present : (n : ℕ) (rs : List Record) → present (results_from n rs) ≡ results_from n rs
all_present n [] = refl
all_present n (r ∷ rs) =
    let d = known_result r (number_for n r) in
    let more = results_from (next_number n (base_alone r)) rs in
    ap (λ b. cond (not b) (d ∷ present more) (present more)) (not_absent r (number_for n r)) ∙ ap (λ l. d ∷ l) (all_present (next_number n (base_alone r)) rs)

-- ---- a run

unmatched_split : (xs ys : List Record) (taken : List Bool)
    → unmatched_of (xs ++ ys) taken ≡ unmatched_of xs (take (length xs) taken) ++ unmatched_of ys (drop (length xs) taken)
unmatched_split [] ys taken = refl
unmatched_split (x ∷ xs) [] [] = refl
unmatched_split (x ∷ xs) (y ∷ ys) [] = refl
unmatched_split (x ∷ xs) ys (true ∷ taken) = unmatched_split xs ys taken
unmatched_split (x ∷ xs) ys (false ∷ taken) = ap (λ l. x ∷ l) (unmatched_split xs ys taken)

zip_unmatched : (n : ℕ) (rs : List Record) (taken : List Bool) → AllZip IsAbsentOf (unmatched_of rs taken) (unmatched rs taken (results_from n rs))
zip_unmatched n [] taken = tt
zip_unmatched n (r ∷ rs) [] = tt
zip_unmatched n (r ∷ rs) (true ∷ taken) = zip_unmatched (next_number n (base_alone r)) rs taken
zip_unmatched n (r ∷ rs) (false ∷ taken) = ((number_for n r, refl), zip_unmatched (next_number n (base_alone r)) rs taken)

zip_append : (rs more : List Record) (ds rest : List Data) → AllZip IsAbsentOf rs ds → AllZip IsAbsentOf more rest → AllZip IsAbsentOf (rs ++ more) (ds ++ rest)
zip_append [] more [] rest here there = there
zip_append [] more (d ∷ ds) rest here there = absurd here
zip_append (r ∷ rs) more [] rest here there = absurd here
zip_append (r ∷ rs) more (d ∷ ds) rest here there = (here.0, zip_append rs more ds rest here.1 there)

results_if_any : (ds : List Data) (ms : Members) (runs : List Data) → flat_map results_of (if_any ds (object ms) runs) ≡ ds ++ flat_map results_of runs
results_if_any [] ms runs = refl
results_if_any (d ∷ ds) ms runs =
    ap (λ o. elements_or_none (option_and_then as_array o) ++ flat_map results_of runs) (get_member-put (codes "results") (array (items_of (d ∷ ds))) (bare ms))
    ∙ ap (λ l. d ∷ (l ++ flat_map results_of runs)) (items_back ds)

-- ---- all runs

pub absent_zip : (runs : List Chosen) (taken : List Bool)
    → AllZip IsAbsentOf (unmatched_of (records_among runs) taken) (flat_map results_of (absent_runs (records_among runs) taken (map known_run runs)))
absent_zip [] taken = tt
absent_zip (run ∷ runs) taken =
    let here = run.records in
    let rest = records_among runs in
    let n = length here in
    let more = map known_run runs in
    let ds = results_from 0 here in
    let are : present (results_of (known_run run)) ≡ ds = ap present (results_are run) ∙ all_present 0 here in
    let long : length (present (results_of (known_run run))) ≡ n = ap length are ∙ count_is 0 here in
    let result : flat_map results_of (absent_runs (here ++ rest) taken (map known_run (run ∷ runs)))
    ≡ unmatched here (take n taken) ds ++ flat_map results_of (absent_runs rest (drop n taken) more) =
    ap₂ (λ k es. flat_map results_of
    (if_any (unmatched (take k (here ++ rest)) (take k taken) es) (known_run run) (absent_runs (drop k (here ++ rest)) (drop k taken) more)))
    long are
    ∙ results_if_any (unmatched (take n (here ++ rest)) (take n taken) ds) (members_from (run_rows run))
    (absent_runs (drop n (here ++ rest)) (drop n taken) more)
    ∙ ap₂ (λ xs ys. unmatched xs (take n taken) ds ++ flat_map results_of (absent_runs ys (drop n taken) more)) (take-append_seam here rest)
    (drop-append_seam here rest) in
    subst (λ l. AllZip IsAbsentOf (unmatched_of (here ++ rest) taken) l) (sym result)
    (subst (λ l. AllZip IsAbsentOf l (unmatched here (take n taken) ds ++ flat_map results_of (absent_runs rest (drop n taken) more)))
    (sym (unmatched_split here rest taken))
    (zip_append (unmatched_of here (take n taken)) (unmatched_of rest (drop n taken)) (unmatched here (take n taken) ds)
    (flat_map results_of (absent_runs rest (drop n taken) more))
    (zip_unmatched 0 here (take n taken)) (absent_zip runs (drop n taken))))
