-- How many records the results of faultless runs have.
use Rattle.std.proofs.Common.{◌≡◌, ℕ, zero, suc, ◌+◌, Bool, true, false, ◌&&◌, not, cond, if◌then◌else◌, List, [], ◌∷◌, ◌++◌, map, filter, length, drop, Option, Some, None, Result, Ok, Err, refl, sym, ap, ◌∙◌, arith}
use Rattle.std.proofs.lemmas.List.{length-append, drop_all, drop_more}
use Rattle.std.specs.List.{AllByRecursion, range_with_len}
use Rattle.serde_json.specs.Data.{Data, null}
use Rattle.sarif_model.specs.declared.fault.Fault.{Fault}
use Rattle.sarif_model.specs.declared.record.Record.{Record}
use Rattle.sarif_model.specs.Run.{results_of, result_at, is_absent_result, results_total}
use Rattle.sarif_runs.specs.Record.{record_of}
use Rattle.sarif_model.specs.declared.merge_fault.At.{At}
use Rattle.sarif_model.specs.declared.merge_fault.At.TheVariants.{Single}
use Rattle.sarif_model.specs.declared.merge_fault.MergeFault.{MergeFault}
use Rattle.sarif_model.specs.declared.merge_fault.Source.{Source}
use Rattle.sarif_runs.specs.declared.item.Item.{Item}
use Rattle.sarif_runs.specs.declared.item.Item.TheVariants.{Skipped}
use Rattle.sarif_runs.specs.Placed.{Placed}
use Rattle.sarif_runs.specs.Judging.{skips, with_record, item_by, item_of, items_of, opening_fault, opened_or, first_bad, run_faults, faults_of_runs, records_in, records_of}
use Rattle.sarif_model.specs.Run.{present}

-- ---- for one run

-- the results that are judged, where those that are absent already are skipped or not
abbrev pub kept : Bool → List Data → List Data
kept skip ds = filter (λ d. not (skip && is_absent_result d)) ds

one : (skipped : Bool) (found : Result Record Fault) (at : ℕ → At) (n : ℕ) (items : List Item) (d : Data) (ds : List Data)
    → first_bad at n ((if skipped then Skipped else item_by found) ∷ items) ≡ []
    → (first_bad at (n + 1) items ≡ [] → length (records_in items) ≡ length ds)
    → length (with_record (if skipped then Skipped else item_by found) (records_in items)) ≡ length (cond (not skipped) (d ∷ ds) ds)
one true found at n items d ds sound rest = rest sound
one false (Ok r) at n items d ds sound rest = ap suc (rest sound)
one false (Err fault) at n items d ds sound rest = cc

many : (p : Placed) (at : ℕ → At) (n a m : ℕ) → a + m ≡ length (results_of p.run)
    → first_bad at n (map (item_of p) (range_with_len a m)) ≡ []
    → length (records_in (map (item_of p) (range_with_len a m))) ≡ length (kept (skips p.source) (drop a (results_of p.run)))
many p at n a zero all sound = sym (ap (λ ds. length (kept (skips p.source) ds)) (drop_all a (results_of p.run) (omega arith)))
many p at n a (suc m) all sound =
    let rest = drop (a + 1) (results_of p.run) in
    one (skips p.source && is_absent_result (result_at p.run a)) (record_of p.options.records p.run a) at n
    (map (item_of p) (range_with_len (a + 1) m)) (result_at p.run a)
    (kept (skips p.source) rest) sound (many p at (n + 1) (a + 1) m (omega arith))
    ∙ sym (ap (λ ds. length (kept (skips p.source) ds)) (drop_more (results_of p.run) a null (omega arith)))

pub no_fault : (source : Source) (number : ℕ) (opening : Option Fault) (items : List Item) → opened_or source number opening items ≡ []
    → first_bad (Single source number) 0 items ≡ []
no_fault source number None items sound = sound
no_fault source number (Some fault) items sound = cc

-- a faultless run has a record of each result that isn't skipped
of_run : (p : Placed) → run_faults p ≡ [] → length (records_in (items_of p)) ≡ length (kept (skips p.source) (results_of p.run))
of_run p sound = many p (Single p.source p.number) 0 0 (length (results_of p.run)) (omega arith)
    (no_fault p.source p.number (opening_fault p) (items_of p) sound)

kept_all : (skip : Bool) → skip ≡ false → (ds : List Data) → length (kept skip ds) ≡ length ds
kept_all true is ds = cc
kept_all false is [] = refl
kept_all false is (d ∷ ds) = ap suc (kept_all false is ds)

kept_present : (skip : Bool) → skip ≡ true → (ds : List Data) → length (kept skip ds) ≡ length (present ds)
kept_present true is ds = refl
kept_present false is ds = cc

-- a faultless run of a log has a record of each result
pub records_of_log : (p : Placed) → skips p.source ≡ false → run_faults p ≡ [] → length (records_in (items_of p)) ≡ length (results_of p.run)
records_of_log p all sound = of_run p sound ∙ kept_all (skips p.source) all (results_of p.run)

-- a faultless run of a baseline has a record of each result that isn't absent already
pub records_of_baseline : (p : Placed) → skips p.source ≡ true → run_faults p ≡ [] → length (records_in (items_of p)) ≡ length (present (results_of p.run))
records_of_baseline p skip sound = of_run p sound ∙ kept_present (skips p.source) skip (results_of p.run)

-- ---- for all runs

pub no_faults_here : (xs ys : List MergeFault) → xs ++ ys ≡ [] → xs ≡ []
no_faults_here [] ys none = refl
no_faults_here (x ∷ xs) ys none = cc

pub no_faults_left : (xs ys : List MergeFault) → xs ++ ys ≡ [] → ys ≡ []
no_faults_left [] ys none = none
no_faults_left (x ∷ xs) ys none = cc

pub records_of_logs : (ps : List Placed) → faults_of_runs ps ≡ [] → AllByRecursion (λ p. skips p.source ≡ false) ps
    → length (records_of ps) ≡ results_total (map (λ p. p.run) ps)
records_of_logs [] sound logs = refl
records_of_logs (p ∷ ps) sound logs =
    let here = records_of_log p logs.0 (no_faults_here (run_faults p) (faults_of_runs ps) sound) in
    let rest = records_of_logs ps (no_faults_left (run_faults p) (faults_of_runs ps) sound) logs.1 in
    length-append (records_in (items_of p)) (records_of ps) ∙ ap (λ n. n + length (records_of ps)) here ∙ ap (λ n. length (results_of p.run) + n) rest
