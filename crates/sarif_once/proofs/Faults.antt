-- Runs without errors have none without some of their results.
use Rattle.std.proofs.Common.{◌≡◌, ◌+◌, ◌||◌, ℕ, Bool, true, false, not, List, [], ◌∷◌, ◌++◌, take, drop, length, Option, Some, None, option_map, is_some, refl, sym, ap, ◌∙◌}
use Rattle.std.specs.List.{list_any}
use Rattle.serde_json.specs.Data.{Data}
use Rattle.serde_json.specs.View.{items_of as json_items}
use Rattle.sarif_model.specs.declared.fault.Fault.{Fault}
use Rattle.sarif_model.specs.declared.merge_fault.At.{At}
use Rattle.sarif_model.specs.declared.merge_fault.At.TheVariants.{Single}
use Rattle.sarif_model.specs.declared.merge_fault.MergeFault.{MergeFault}
use Rattle.sarif_model.specs.declared.merge_fault.Source.{Source}
use Rattle.sarif_model.specs.Run.{results_array, results_of}
use Rattle.sarif_read.specs.Failed.{failed, invocations_in, is_unsuccessful}
use Rattle.sarif_read.specs.Unmarked.{unmarked, without_marked}
use Rattle.sarif_read.proofs.Beside.{bare_unsuccessful}
use Rattle.sarif_read.proofs.Only.{array_only, bare_only}
use Rattle.sarif_runs.specs.declared.item.Item.{Item}
use Rattle.sarif_runs.specs.declared.item.Item.TheVariants.{Sound, Bad, Skipped}
use Rattle.sarif_runs.specs.Judging.{fault_of, faults_of_runs, first_bad, items_of, opened_of, opened_or, opening_fault, run_faults}
use Rattle.sarif_runs.specs.Placed.{Placed}
use Rattle.sarif_runs.specs.Unmarked.{placed_without, runs_without}
use Rattle.sarif_runs.proofs.Unmarked.{head_without}
use Rattle.sarif_results.proofs.JudgedCounts.{no_faults_here, no_faults_left}
use Rattle.sarif_once.proofs.Items.{items_left}

-- ---- opening

some_mapped : {A B : Type 0} (f : A → B) (o : Option A) → is_some (option_map f o) ≡ is_some o
some_mapped f None = refl
some_mapped f (Some a) = refl

failed_without : (marks : List Bool) (run : Data) → failed (without_marked marks run) ≡ failed run
failed_without marks run =
    let ds = unmarked marks (results_of run) in
    let unsuccessful : list_any is_unsuccessful (invocations_in (without_marked marks run)) ≡ list_any is_unsuccessful (invocations_in run) =
    sym (bare_unsuccessful (without_marked marks run)) ∙ ap (λ d. list_any is_unsuccessful (invocations_in d)) (bare_only ds run) ∙ bare_unsuccessful run in
    ap (λ b. b || not (is_some (results_array (without_marked marks run)))) unsuccessful
    ∙ ap (λ b. list_any is_unsuccessful (invocations_in run) || not b)
    (ap is_some (array_only ds run) ∙ some_mapped (λ _. json_items ds) (results_array run))

opened_without : (must : Bool) (marks : List Bool) (run : Data) → opened_of must (without_marked marks run) ≡ opened_of must run
opened_without false marks run = head_without marks run
opened_without true marks run = rw (head_without marks run, failed_without marks run) refl

-- ---- items

pub none_bad : (at at' : ℕ → At) (n m : ℕ) (marks : List Bool) (items : List Item) → first_bad at n items ≡ [] → first_bad at' m (unmarked marks items) ≡ []
none_bad at at' n m [] items sound = refl
none_bad at at' n m (mark ∷ marks) [] sound = refl
none_bad at at' n m (true ∷ marks) (Sound r ∷ items) sound = none_bad at at' (n + 1) m marks items sound
none_bad at at' n m (true ∷ marks) (Bad fault ∷ items) sound = cc
none_bad at at' n m (true ∷ marks) (Skipped ∷ items) sound = none_bad at at' (n + 1) m marks items sound
none_bad at at' n m (false ∷ marks) (Sound r ∷ items) sound = none_bad at at' (n + 1) (m + 1) marks items sound
none_bad at at' n m (false ∷ marks) (Bad fault ∷ items) sound = cc
none_bad at at' n m (false ∷ marks) (Skipped ∷ items) sound = none_bad at at' (n + 1) (m + 1) marks items sound

opened_sound : (source : Source) (number : ℕ) (opening : Option Fault) (marks : List Bool) (items : List Item)
    → opened_or source number opening items ≡ [] → opened_or source number opening (unmarked marks items) ≡ []
opened_sound source number (Some fault) marks items sound = cc
opened_sound source number None marks items sound = none_bad (Single source number) (Single source number) 0 0 marks items sound

run_sound : (marks : List Bool) (p : Placed) → run_faults p ≡ [] → run_faults (placed_without marks p) ≡ []
run_sound marks p sound =
    ap (opened_or p.source p.number (opening_fault (placed_without marks p))) (items_left marks p)
    ∙ ap (λ o. opened_or p.source p.number (fault_of o) (unmarked marks (items_of p))) (opened_without p.options.must_succeed marks p.run)
    ∙ opened_sound p.source p.number (opening_fault p) marks (items_of p) sound

both_none : (xs ys : List MergeFault) → xs ≡ [] → ys ≡ [] → xs ++ ys ≡ []
both_none xs ys none_x none_y = rw (none_x, none_y) refl

pub none_faulty : (marks : List Bool) (ps : List Placed) → faults_of_runs ps ≡ [] → faults_of_runs (runs_without marks ps) ≡ []
none_faulty marks [] sound = refl
none_faulty marks (p ∷ ps) sound =
    let n = length (results_of p.run) in
    both_none (run_faults (placed_without (take n marks) p)) (faults_of_runs (runs_without (drop n marks) ps))
    (run_sound (take n marks) p (no_faults_here (run_faults p) (faults_of_runs ps) sound))
    (none_faulty (drop n marks) ps (no_faults_left (run_faults p) (faults_of_runs ps) sound))
