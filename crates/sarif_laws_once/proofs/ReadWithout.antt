-- Logs and baselines that are read as others without some of their results.
use Rattle.std.proofs.Common.{◌≡◌, ◌+◌, ◌≤◌, ◌||◌, ℕ, suc, Bool, true, false, List, [], ◌∷◌, ◌++◌, length, take, drop, refl, sym, ap, ap₂, ◌∙◌, arith}
use Rattle.std.specs.List.{AllZip}
use Rattle.std.proofs.lemmas.List.{drop-drop}
use Rattle.serde_json.specs.Data.{Data}
use Rattle.sarif_model.specs.declared.merge_fault.Source.{Source}
use Rattle.sarif_model.specs.declared.merge_fault.Source.TheVariants.{Baseline, Log}
use Rattle.sarif_model.specs.Run.{results_of, results_total}
use Rattle.sarif_options.specs.declared.checks.Checks.{Checks}
use Rattle.sarif_read.specs.Reading.{log_of}
use Rattle.sarif_read.specs.Unmarked.{unmarked, without_marked}
use Rattle.sarif_read.proofs.Only.{results_without, unmarked_few}
use Rattle.sarif_runs.specs.Judging.{faults_of_runs, run_values}
use Rattle.sarif_runs.specs.Placed.{Placed}
use Rattle.sarif_runs.specs.Unmarked.{placed_without, runs_without}
use Rattle.sarif_once.specs.Once.{copy_marks, without_copies}
use Rattle.sarif_once.proofs.Faults.{none_faulty}
use Rattle.sarif_inputs.specs.Faults.{faults_of}
use Rattle.sarif_inputs.specs.Inputs.{Inputs, Sourced, baseline_runs, input_runs, looks_at_regions, must_succeed, numbered, placed, placed_from, readable, record_options, runs_in}
use Rattle.sarif_inputs.specs.SourceFaults.{limit_faults, reading_faults, source_faults}
use Rattle.sarif_inputs_laws.proofs.Parts.{all_faults, apart_faults}
use Rattle.sarif_inputs_laws.proofs.Renumbered.{both_empty, none_both, zip_append}
use Rattle.sarif_inputs_laws.proofs.Sources.{fewer_limits, fewer_sources, here}
use Rattle.sarif_laws_once.specs.Places.{values_without}
use Rattle.sarif_laws_once.specs.TakenOut.{AreReadWithout, AreWithoutCopies, counting_each}

-- ---- sources with as many runs and no more results

pub record IsNoLarger (x y : Sourced) : Type 0 where
  pub reading : reading_faults y.source (log_of y.checks.allow_external y.bytes) ≡ []
  pub runs : length (runs_in y) ≤ length (runs_in x)
  pub results : results_total (runs_in y) ≤ results_total (runs_in x)

no_larger : (runs results fewer less : ℕ) (xs ys : List Sourced) → fewer ≤ runs → less ≤ results → AllZip IsNoLarger xs ys
    → source_faults runs results xs ≡ [] → source_faults fewer less ys ≡ []
no_larger runs results fewer less [] [] few_runs few_results same none = refl
no_larger runs results fewer less [] (y ∷ ys) few_runs few_results same none = absurd same
no_larger runs results fewer less (x ∷ xs) [] few_runs few_results same none = absurd same
no_larger runs results fewer less (x ∷ xs) (y ∷ ys) few_runs few_results same none =
    let one = same.0 in
    let many = one.runs in
    let total = one.results in
    let now = runs + length (runs_in x) in
    let all = results + results_total (runs_in x) in
    let parts = both_empty (here runs results x) (source_faults now all xs) none in
    let first = both_empty (reading_faults x.source (log_of x.checks.allow_external x.bytes)) (limit_faults x.source now all) parts.0 in
    let less_runs : fewer + length (runs_in y) ≤ now = omega (arith, few_runs, many) in
    let less_results : less + results_total (runs_in y) ≤ all = omega (arith, few_results, total) in
    none_both (here fewer less y) (source_faults (fewer + length (runs_in y)) (less + results_total (runs_in y)) ys)
    (none_both (reading_faults y.source (log_of y.checks.allow_external y.bytes))
    (limit_faults y.source (fewer + length (runs_in y)) (less + results_total (runs_in y))) one.reading
    (fewer_limits x.source y.source now all (fewer + length (runs_in y)) (less + results_total (runs_in y)) less_runs less_results first.1))
    (no_larger now all (fewer + length (runs_in y)) (less + results_total (runs_in y)) xs ys less_runs less_results same.1 parts.1)

values_long : (marks : List Bool) (runs : List Data) → length (values_without marks runs) ≡ length runs
values_long marks [] = refl
values_long marks (run ∷ runs) = ap suc (values_long (drop (length (results_of run)) marks) runs)

values_few : (marks : List Bool) (runs : List Data) → results_total (values_without marks runs) ≤ results_total runs
values_few marks [] = omega arith
values_few marks (run ∷ runs) =
    let n = length (results_of run) in
    let one : length (results_of (without_marked (take n marks) run)) ≡ length (unmarked (take n marks) (results_of run)) =
    ap length (results_without (take n marks) run) in
    let few = unmarked_few (take n marks) (results_of run) in
    let rest = values_few (drop n marks) runs in
    omega (arith, one, few, rest)

long : (allow : Bool) (marks : List Bool) (those these : List (List ℕ)) → AreReadWithout allow marks those these → length these ≡ length those
long allow marks [] [] same = refl
long allow marks [] (y ∷ ys) same = absurd same
long allow marks (x ∷ xs) [] same = absurd same
long allow marks (x ∷ xs) (y ∷ ys) same = ap suc (long allow (drop (results_total same.0) marks) xs ys same.3)

-- ---- runs after others

pub seam : (marks : List Bool) (ps qs : List Placed)
    → runs_without marks (ps ++ qs) ≡ runs_without marks ps ++ runs_without (drop (results_total (run_values ps)) marks) qs
seam marks [] qs = refl
seam marks (p ∷ ps) qs =
    let n = length (results_of p.run) in
    ap (λ l. placed_without (take n marks) p ∷ l)
    (seam (drop n marks) ps qs
    ∙ ap (λ ms. runs_without (drop n marks) ps ++ runs_without ms qs) (drop-drop (results_total (run_values ps)) n marks))

pub from_values : (checks : Checks) (source : Source) (n : ℕ) (runs : List Data) → run_values (placed_from checks source n runs) ≡ runs
from_values checks source n [] = refl
from_values checks source n (run ∷ runs) = ap (λ l. run ∷ l) (from_values checks source (n + 1) runs)

-- ---- the runs of sources without their marked results

module _ (checks : Checks) (snippets : Bool) where
  -- how runs are read if copies aren't counted, and if each result is
  abbrev pub whole : Checks
  whole = record checks { once = snippets || checks.once }

  abbrev pub plain : Checks
  plain = record checks { once = snippets || false }

  pub no_larger_each : (name : ℕ → Source) (n : ℕ) (marks : List Bool) (those these : List (List ℕ))
      → AreReadWithout checks.allow_external marks those these
      → AllZip IsNoLarger (numbered whole name n those) (numbered plain name n these)
  no_larger_each name n marks [] [] same = tt
  no_larger_each name n marks [] (y ∷ ys) same = absurd same
  no_larger_each name n marks (x ∷ xs) [] same = absurd same
  no_larger_each name n marks (x ∷ xs) (y ∷ ys) same =
      let runs = same.0 in
      let was : readable (log_of checks.allow_external x) ≡ runs = ap readable same.1 in
      let is : readable (log_of checks.allow_external y) ≡ values_without marks runs = ap readable same.2 in
      let long_x : length (readable (log_of checks.allow_external x)) ≡ length runs = ap length was in
      let long_y : length (readable (log_of checks.allow_external y)) ≡ length runs = ap length is ∙ values_long marks runs in
      let all_x : results_total (readable (log_of checks.allow_external x)) ≡ results_total runs = ap results_total was in
      let all_y : results_total (readable (log_of checks.allow_external y)) ≡ results_total (values_without marks runs) = ap results_total is in
      let few = values_few marks runs in (
        record {
          reading = ap (reading_faults (name n)) same.2;
          runs = omega (arith, long_x, long_y);
          results = omega (arith, all_x, all_y, few);
        },
        no_larger_each name (n + 1) (drop (results_total runs) marks) xs ys same.3,
      )

-- regions are read in both, or in both because entries compare snippets
regions_same : (looks snippets once : Bool) → (snippets || looks) ≡ true → (looks || (snippets || false)) ≡ (looks || (snippets || once))
regions_same true snippets once is = refl
regions_same false true once is = refl
regions_same false false once is = let never : ⊥ = cc in absurd never

module _ (checks : Checks) (snippets : Bool) (regions : (snippets || looks_at_regions checks.matching) ≡ true) where
  same_options : record_options (plain checks snippets) ≡ record_options (whole checks snippets)
  same_options =
      (λ i. record {
        regions = regions_same (looks_at_regions checks.matching) snippets checks.once regions i;
        ignored = checks.ignored;
      })

  from_without : (source : Source) → must_succeed (plain checks snippets) source ≡ must_succeed (whole checks snippets) source → (n : ℕ) (marks : List Bool) (runs : List Data)
      → placed_from (plain checks snippets) source n (values_without marks runs) ≡ runs_without marks (placed_from (whole checks snippets) source n runs)
  from_without source must n marks [] = refl
  from_without source must n marks (run ∷ runs) =
      let k = length (results_of run) in
      (λ i. record {
        source = source;
        number = n;
        options = record { must_succeed = must i; records = same_options i };
        run = without_marked (take k marks) run;
      } ∷ from_without source must (n + 1) (drop k marks) runs i)

  module _ (name : ℕ → Source) (must : (n : ℕ) → must_succeed (plain checks snippets) (name n) ≡ must_succeed (whole checks snippets) (name n)) where
    sources_without : (n : ℕ) (marks : List Bool) (those these : List (List ℕ)) → AreReadWithout checks.allow_external marks those these
        → placed (numbered (plain checks snippets) name n these) ≡ runs_without marks (placed (numbered (whole checks snippets) name n those))
    sources_without n marks [] [] same = refl
    sources_without n marks [] (y ∷ ys) same = absurd same
    sources_without n marks (x ∷ xs) [] same = absurd same
    sources_without n marks (x ∷ xs) (y ∷ ys) same =
        let runs = same.0 in
        let ps = placed_from (whole checks snippets) (name n) 0 runs in
        let rest = placed (numbered (whole checks snippets) name (n + 1) xs) in
        ap₂ (λ r more. placed_from (plain checks snippets) (name n) 0 (readable r) ++ more) same.2
        (sources_without (n + 1) (drop (results_total runs) marks) xs ys same.3)
        ∙ ap₂ (λ l m. l ++ runs_without (drop (results_total m) marks) rest) (from_without (name n) (must n) 0 marks runs)
        (sym (from_values (whole checks snippets) (name n) 0 runs))
        ∙ sym (seam marks ps rest)
        ∙ ap (λ r. runs_without marks (placed_from (whole checks snippets) (name n) 0 (readable r) ++ rest)) (sym same.1)

-- ---- inputs without their copies

-- the sources have no errors if their runs have none
pub none_with : (inputs : Inputs) (logs baselines : List (List ℕ)) → faults_of inputs ≡ [] → AreWithoutCopies inputs logs baselines
    → faults_of_runs (input_runs (counting_each inputs logs baselines)) ≡ [] → faults_of_runs (baseline_runs (counting_each inputs logs baselines)) ≡ []
    → faults_of (counting_each inputs logs baselines) ≡ []
none_with inputs logs baselines none read now before =
    let checks = inputs.checks in
    let snippets = inputs.snippets in
    let fine = apart_faults inputs none in
    let many = long checks.allow_external (copy_marks (input_runs inputs)) inputs.logs logs read.current in
    let older = long checks.allow_external (copy_marks (baseline_runs inputs)) inputs.baselines baselines read.before in
    let none_yet : 0 ≤ 0 = omega arith in
    all_faults (counting_each inputs logs baselines) (record {
      logs = fewer_sources Log inputs.logs logs (omega (arith, many)) fine.logs;
      baselines = fewer_sources Baseline inputs.baselines baselines (omega (arith, older)) fine.baselines;
      sources = no_larger 0 0 0 0 (numbered (whole checks snippets) Log 0 inputs.logs ++ numbered (whole checks snippets) Baseline 0 inputs.baselines)
          (numbered (plain checks snippets) Log 0 logs ++ numbered (plain checks snippets) Baseline 0 baselines) none_yet none_yet
          (zip_append IsNoLarger (numbered (whole checks snippets) Log 0 inputs.logs) (numbered (plain checks snippets) Log 0 logs)
          (numbered (whole checks snippets) Baseline 0 inputs.baselines) (numbered (plain checks snippets) Baseline 0 baselines)
          (no_larger_each checks snippets Log 0 (copy_marks (input_runs inputs)) inputs.logs logs read.current)
          (no_larger_each checks snippets Baseline 0 (copy_marks (baseline_runs inputs)) inputs.baselines baselines read.before))
          fine.sources;
      file = fine.file;
      policy = fine.policy;
      change = fine.change;
      log_runs = now;
      older_runs = before;
    })

module _ (inputs : Inputs) (logs baselines : List (List ℕ)) (none : faults_of inputs ≡ [])
    (regions : (inputs.snippets || looks_at_regions inputs.checks.matching) ≡ true) (read : AreWithoutCopies inputs logs baselines) where
  abbrev other : Inputs
  other = counting_each inputs logs baselines

  pub runs_now : input_runs (counting_each inputs logs baselines) ≡ without_copies (input_runs inputs)
  runs_now = sources_without inputs.checks inputs.snippets regions Log (λ n. refl) 0 (copy_marks (input_runs inputs)) inputs.logs logs read.current

  pub runs_before : baseline_runs (counting_each inputs logs baselines) ≡ without_copies (baseline_runs inputs)
  runs_before = sources_without inputs.checks inputs.snippets regions Baseline (λ n. refl) 0 (copy_marks (baseline_runs inputs)) inputs.baselines baselines read.before

  pub none_there : faults_of (counting_each inputs logs baselines) ≡ []
  none_there =
      let fine = apart_faults inputs none in
      none_with inputs logs baselines none read
      (ap faults_of_runs runs_now ∙ none_faulty (copy_marks (input_runs inputs)) (input_runs inputs) fine.log_runs)
      (ap faults_of_runs runs_before ∙ none_faulty (copy_marks (baseline_runs inputs)) (baseline_runs inputs) fine.older_runs)
