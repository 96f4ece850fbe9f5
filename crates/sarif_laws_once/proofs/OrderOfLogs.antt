-- The number of findings does not depend on the order of logs.
use Rattle.std.proofs.Common.{◌≡◌, ◌+◌, ◌++◌, ℕ, Bool, true, false, List, [], ◌∷◌, length, refl, sym, ap, ap₂, ◌∙◌, arith}
use Rattle.std.specs.List.{flat_map}
use Rattle.std.specs.List.Sorted.{IsPermutation}
use Rattle.sarif_copies.specs.Copies.{copies_of}
use Rattle.sarif_counts.specs.CountOf.{count_of}
use Rattle.sarif_model.specs.declared.merge_fault.Source.TheVariants.{Log}
use Rattle.sarif_model.specs.declared.record.Record.{Record}
use Rattle.sarif_options.specs.declared.checks.Checks.{Checks}
use Rattle.sarif_read.specs.Unmarked.{unmarked}
use Rattle.sarif_runs.specs.Judging.{records_of}
use Rattle.sarif_once.proofs.Marks.{findings_left, marked_each}
use Rattle.sarif_prepare.specs.By.{runs_counted_if}
use Rattle.sarif_inputs.specs.Faults.{faults_of}
use Rattle.sarif_inputs.specs.Inputs.{Inputs, baseline_runs, baseline_sources, input_runs, log_sources, numbered, placed, reading_checks}
use Rattle.sarif_inputs.proofs.ReadFacts.{baseline_sides, log_sides}
use Rattle.sarif_inputs_laws.proofs.Parts.{apart_faults}
use Rattle.sarif_inputs_laws.proofs.Renumbered.{placed-append, placed_alike, records-append, records_alike}
use Rattle.sarif_inputs_laws.proofs.Sources.{numbered-append}
use Rattle.sarif_merge.specs.MergedLog.{file_given, runs_counted}
use Rattle.sarif_merge.proofs.ReadObjects.{objects_in}
use Rattle.sarif_laws_once.specs.Findings.{findings_counted}
use Rattle.sarif_laws_once.specs.MoreLogs.{with_logs}
use Rattle.sarif_laws_once.proofs.Apart.{unset_in}
use Rattle.sarif_laws_once.proofs.CopiesMore.{copies_are}
use Rattle.sarif_laws_once.proofs.FindingsCounted.{each_finding}
use Rattle.sarif_laws_once.proofs.Order.{any_order, number_after, number_is}
use Rattle.sarif_laws_once.proofs.OrderAccepted.{none_in_any_order}

-- the records of one log
abbrev of_log : Checks → List ℕ → List Record
of_log checks bytes = records_of (placed (numbered checks Log 0 (bytes ∷ [])))

of_logs : (checks : Checks) (n : ℕ) (logs : List (List ℕ)) → records_of (placed (numbered checks Log n logs)) ≡ flat_map (of_log checks) logs
of_logs checks n [] = refl
of_logs checks n (bytes ∷ logs) =
    ap records_of (ap placed (numbered-append checks Log n (bytes ∷ []) logs)
    ∙ placed-append (numbered checks Log n (bytes ∷ [])) (numbered checks Log (n + 1) logs))
    ∙ records-append (placed (numbered checks Log n (bytes ∷ []))) (placed (numbered checks Log (n + 1) logs))
    ∙ ap₂ (λ rs qs. rs ++ qs)
    (records_alike (placed (numbered checks Log n (bytes ∷ []))) (placed (numbered checks Log 0 (bytes ∷ [])))
    (placed_alike checks Log (λ a b. refl) (λ a b. refl) n 0 (bytes ∷ [])))
    (of_logs checks (n + 1) logs)

-- results that aren't marked
unmarked_count : {X : Type 0} (marks : List Bool) (xs : List X) → length marks ≡ length xs → length (unmarked marks xs) ≡ unset_in marks
unmarked_count [] [] same = refl
unmarked_count [] (x ∷ xs) same = absurd (omega (arith, same))
unmarked_count (m ∷ marks) [] same = absurd (omega (arith, same))
unmarked_count (true ∷ marks) (x ∷ xs) same = unmarked_count marks xs (omega (arith, same))
unmarked_count (false ∷ marks) (x ∷ xs) same = let rest = unmarked_count marks xs (omega (arith, same)) in omega (arith, rest)

found_number : (rs : List Record) → length (unmarked (copies_of rs) rs) ≡ number_after [] rs
found_number rs = unmarked_count (copies_of rs) rs (marked_each rs) ∙ ap unset_in (copies_are rs) ∙ number_is [] rs

-- how many findings the gate counts
counted : (inputs : Inputs) → faults_of inputs ≡ [] → inputs.checks.once ≡ true
    → findings_counted (count_of (runs_counted inputs)) ≡ number_after [] (flat_map (of_log (reading_checks inputs)) inputs.logs)
counted inputs none once =
    let v = inputs.checks.matching in
    let file = file_given inputs in
    let now = input_runs inputs in
    let before = baseline_runs inputs in
    let fine = apart_faults inputs none in
    ap (λ b. findings_counted (count_of (runs_counted_if b v file now before))) once
    ∙ each_finding v file now before (objects_in (log_sources inputs)) (objects_in (baseline_sources inputs)) fine.log_runs fine.older_runs
    (log_sides (reading_checks inputs) 0 inputs.logs) (baseline_sides (reading_checks inputs) 0 inputs.baselines)
    ∙ ap length (findings_left now)
    ∙ found_number (records_of now)
    ∙ ap (number_after []) (of_logs (reading_checks inputs) 0 inputs.logs)

pub as_many_findings : (inputs : Inputs) (logs : List (List ℕ)) → IsPermutation inputs.logs logs → faults_of inputs ≡ []
    → inputs.checks.once ≡ true
    → findings_counted (count_of (runs_counted (with_logs inputs logs))) ≡ findings_counted (count_of (runs_counted inputs))
as_many_findings inputs logs permuted none once =
    counted (with_logs inputs logs) (none_in_any_order inputs logs permuted none) once
    ∙ any_order (of_log (reading_checks inputs)) inputs.logs logs permuted
    ∙ sym (counted inputs none once)
