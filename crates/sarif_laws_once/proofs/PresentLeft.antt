-- Baseline runs without the marked ones among the results that aren't absent already.
use Rattle.std.proofs.Common.{◌≡◌, ◌+◌, ◌≤◌, ℕ, zero, suc, Bool, true, false, not, cond, ◌&&◌, List, [], ◌∷◌, ◌++◌, map, take, drop, length, Option, Some, None, Result, Ok, Err, if◌then◌else◌, refl, sym, ap, ap₂, ◌∙◌, subst, arith}
use Rattle.std.specs.Prelude.{option_map}
use Rattle.std.specs.List.{AllByRecursion, flat_map, range_with_len}
use Rattle.std.proofs.Math.Seq.{take-append_seam, drop-append_seam}
use Rattle.std.proofs.lemmas.List.{drop_more, length-append, length-drop, length-take-le}
use Rattle.serde_json.specs.Data.{Data, null, boolean, number, string, array, object, Items}
use Rattle.serde_json.specs.View.{items_of as json_items}
use Rattle.sarif_model.specs.declared.fault.Fault.{Fault}
use Rattle.sarif_model.specs.declared.merge_fault.At.{At}
use Rattle.sarif_model.specs.declared.merge_fault.At.TheVariants.{Single}
use Rattle.sarif_model.specs.declared.record.Record.{Record}
use Rattle.sarif_model.specs.Run.{is_absent_result, present, result_at, results_array, results_of}
use Rattle.sarif_read.specs.Unmarked.{unmarked, with_array, without_marked}
use Rattle.sarif_read.proofs.Only.{results_without}
use Rattle.sarif_results.proofs.JudgedCounts.{no_fault, no_faults_here, no_faults_left, records_of_baseline}
use Rattle.sarif_runs.specs.declared.item.Item.{Item}
use Rattle.sarif_runs.specs.declared.item.Item.TheVariants.{Sound, Bad, Skipped}
use Rattle.sarif_runs.specs.Judging.{faults_of_runs, first_bad, item_by, item_of, items_of, opening_fault, records_in, records_of, run_faults, run_values, skips}
use Rattle.sarif_runs.specs.Placed.{Placed}
use Rattle.sarif_runs.specs.Record.{record_of}
use Rattle.sarif_runs.specs.Unmarked.{runs_without}
use Rattle.sarif_once.specs.Once.{marks_in}
use Rattle.sarif_once.proofs.Items.{items_long}
use Rattle.sarif_once.proofs.Marks.{marks_long}
use Rattle.sarif_log.specs.MergedRuns.{with_absent, with_results}
use Rattle.sarif_laws_once.proofs.AbsentWithout.{ArePresentLeft}
use Rattle.sarif_laws_once.proofs.InputsWithout.{bare_put}

-- ---- marks of results, by those of their records

abbrev no_marks : List Bool
no_marks = []

drop_none : (n : ℕ) → drop n no_marks ≡ drop (suc n) no_marks
drop_none zero = refl
drop_none (suc n) = refl

marks_seam : (xs ys : List Item) (ms : List Bool) → marks_in (xs ++ ys) ms ≡ marks_in xs ms ++ marks_in ys (drop (length (records_in xs)) ms)
marks_seam [] ys ms = refl
marks_seam (Sound r ∷ xs) ys [] = ap (λ bs. false ∷ bs) (marks_seam xs ys [] ∙ ap (λ m. marks_in xs [] ++ marks_in ys m) (drop_none (length (records_in xs))))
marks_seam (Sound r ∷ xs) ys (m ∷ ms) = ap (λ bs. m ∷ bs) (marks_seam xs ys ms)
marks_seam (Bad fault ∷ xs) ys ms = ap (λ bs. false ∷ bs) (marks_seam xs ys ms)
marks_seam (Skipped ∷ xs) ys ms = ap (λ bs. false ∷ bs) (marks_seam xs ys ms)

-- only the marks of the records are read
marks_front : (xs : List Item) (ms : List Bool) → marks_in xs (take (length (records_in xs)) ms) ≡ marks_in xs ms
marks_front [] ms = refl
marks_front (Sound r ∷ xs) [] = refl
marks_front (Sound r ∷ xs) (m ∷ ms) = ap (λ bs. m ∷ bs) (marks_front xs ms)
marks_front (Bad fault ∷ xs) ms = ap (λ bs. false ∷ bs) (marks_front xs ms)
marks_front (Skipped ∷ xs) ms = ap (λ bs. false ∷ bs) (marks_front xs ms)

-- ---- a run

absent_out : (d : Data) (ds : List Data) → is_absent_result d ≡ true → present (d ∷ ds) ≡ present ds
absent_out d ds is = ap (λ b. cond (not b) (d ∷ present ds) (present ds)) is

present_in : (d : Data) (ds : List Data) → is_absent_result d ≡ false → present (d ∷ ds) ≡ d ∷ present ds
present_in d ds is = ap (λ b. cond (not b) (d ∷ present ds) (present ds)) is

abbrev AreLeft : List Item → List Data → List Bool → Type 0
AreLeft items ds ms = present (unmarked (marks_in items ms) ds) ≡ unmarked ms (present ds)

one : (absent : Bool) (found : Result Record Fault) (at : ℕ → At) (n : ℕ) (items : List Item) (d : Data) (ds : List Data) (ms : List Bool)
    → is_absent_result d ≡ absent → first_bad at n ((if absent then Skipped else item_by found) ∷ items) ≡ []
    → length ms ≡ length (records_in ((if absent then Skipped else item_by found) ∷ items))
    → ((rest : List Bool) → first_bad at (n + 1) items ≡ [] → length rest ≡ length (records_in items) → AreLeft items ds rest)
    → AreLeft ((if absent then Skipped else item_by found) ∷ items) (d ∷ ds) ms
one true found at n items d ds ms is sound same more =
    absent_out d (unmarked (marks_in items ms) ds) is ∙ more ms sound same ∙ ap (unmarked ms) (sym (absent_out d ds is))
one false (Ok r) at n items d ds [] is sound same more = absurd (omega (arith, same))
one false (Ok r) at n items d ds (true ∷ ms) is sound same more =
    more ms sound (omega (arith, same)) ∙ ap (unmarked (true ∷ ms)) (sym (present_in d ds is))
one false (Ok r) at n items d ds (false ∷ ms) is sound same more =
    present_in d (unmarked (marks_in items ms) ds) is ∙ ap (λ es. d ∷ es) (more ms sound (omega (arith, same)))
    ∙ ap (unmarked (false ∷ ms)) (sym (present_in d ds is))
one false (Err fault) at n items d ds ms is sound same more = let never : ⊥ = cc in absurd never

none_present : (ms : List Bool) (ds : List Data) → length ms ≡ 0 → [] ≡ unmarked ms (present ds)
none_present [] ds same = refl
none_present (m ∷ ms) ds same = absurd (omega (arith, same))

many : (p : Placed) (at : ℕ → At) → skips p.source ≡ true → (n a m : ℕ) (ms : List Bool) → a + m ≡ length (results_of p.run)
    → first_bad at n (map (item_of p) (range_with_len a m)) ≡ [] → length ms ≡ length (records_in (map (item_of p) (range_with_len a m)))
    → AreLeft (map (item_of p) (range_with_len a m)) (drop a (results_of p.run)) ms
many p at skip n a zero ms all sound same = none_present ms (drop a (results_of p.run)) same
many p at skip n a (suc m) ms all sound same =
    let d = result_at p.run a in
    let rest = drop (a + 1) (results_of p.run) in
    let items = map (item_of p) (range_with_len (a + 1) m) in
    let item : item_of p a ≡ (if is_absent_result d then Skipped else item_by (record_of p.options.records p.run a)) =
    ap (λ b. if b && is_absent_result d then Skipped else item_by (record_of p.options.records p.run a)) skip in
    ap (λ ds. present (unmarked (marks_in (map (item_of p) (range_with_len a (suc m))) ms) ds)) (drop_more (results_of p.run) a null (omega (arith, all)))
    ∙ ap (λ i. present (unmarked (marks_in (i ∷ items) ms) (d ∷ rest))) item
    ∙ one (is_absent_result d) (record_of p.options.records p.run a) at n items d rest ms refl
    (ap (λ i. first_bad at n (i ∷ items)) (sym item) ∙ sound) (same ∙ ap (λ i. length (records_in (i ∷ items))) item)
    (λ later fine long. many p at skip (n + 1) (a + 1) m later (omega (arith, all)) fine long)
    ∙ ap (λ ds. unmarked ms (present ds)) (sym (drop_more (results_of p.run) a null (omega (arith, all))))

of_run : (p : Placed) (ms : List Bool) → skips p.source ≡ true → run_faults p ≡ [] → length ms ≡ length (records_in (items_of p))
    → AreLeft (items_of p) (results_of p.run) ms
of_run p ms skip sound same =
    many p (Single p.source p.number) skip 0 0 (length (results_of p.run)) ms (omega arith)
    (no_fault p.source p.number (opening_fault p) (items_of p) sound) same

-- the other members stay
beside_left : (ms : List Bool) (run : Data) (ds : List Data) → with_absent ds (without_marked ms run) ≡ with_absent ds run
beside_left ms null ds = refl
beside_left ms (boolean b) ds = refl
beside_left ms (number n) ds = refl
beside_left ms (string s) ds = refl
beside_left ms (array es) ds = refl
beside_left ms (object members) ds = at (option_map (λ _. json_items (unmarked ms (results_of (object members)))) (results_array (object members))) where
  at : (found : Option Items) → with_absent ds (with_array found (object members)) ≡ with_absent ds (object members)
  at None = refl
  at (Some es) = ap (λ beside. object (with_results (Some (json_items ds)) beside)) (bare_put (array es) members)

-- ---- all runs

pub present_are_left : (ms : List Bool) (ps : List Placed) → length ms ≡ length (records_of ps) → faults_of_runs ps ≡ []
    → AllByRecursion (λ p. skips p.source ≡ true) ps
    → ArePresentLeft ms (run_values ps) (run_values (runs_without (marks_in (flat_map items_of ps) ms) ps))
present_are_left ms [] same sound baselines = tt
present_are_left ms (p ∷ ps) same sound baselines =
    let items = items_of p in
    let rest = flat_map items_of ps in
    let k = length (results_of p.run) in
    let fine = no_faults_here (run_faults p) (faults_of_runs ps) sound in
    let n = length (present (results_of p.run)) in
    let count : length (records_in items) ≡ n = records_of_baseline p baselines.0 fine in
    let long = length-append (records_in items) (records_of ps) in
    let le : n ≤ length ms = omega (arith, same, long, count) in
    let first : length (take n ms) ≡ n = length-take-le n ms le in
    let later = marks_in rest (drop (length (records_in items)) ms) in
    let all : marks_in (flat_map items_of (p ∷ ps)) ms ≡ marks_in items ms ++ later = marks_seam items rest ms in
    let here_long : k ≡ length (marks_in items ms) = sym (items_long p) ∙ sym (marks_long items ms) in
    let here : take k (marks_in (flat_map items_of (p ∷ ps)) ms) ≡ marks_in items (take n ms) =
    ap₂ take here_long all ∙ take-append_seam (marks_in items ms) later
    ∙ sym (marks_front items ms) ∙ ap (λ m. marks_in items (take m ms)) count in
    let there : drop k (marks_in (flat_map items_of (p ∷ ps)) ms) ≡ marks_in rest (drop n ms) =
    ap₂ drop here_long all ∙ drop-append_seam (marks_in items ms) later ∙ ap (λ m. marks_in rest (drop m ms)) count in (
      ap (λ bs. present (results_of (without_marked bs p.run))) here
          ∙ ap present (results_without (marks_in items (take n ms)) p.run)
          ∙ of_run p (take n ms) baselines.0 fine (first ∙ sym count),
      λ ds. beside_left (take k (marks_in (flat_map items_of (p ∷ ps)) ms)) p.run ds,
      subst (λ bs. ArePresentLeft (drop n ms) (run_values ps) (run_values (runs_without bs ps))) (sym there)
          (present_are_left (drop n ms) ps (omega (arith, length-drop n ms, same, long, count)) (no_faults_left (run_faults p) (faults_of_runs ps) sound) baselines.1),
    )
