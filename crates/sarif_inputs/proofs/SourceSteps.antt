-- One more source, read without an error: the remaining sources determine the result for all of them.
use Rattle.std.proofs.Common.{◌≡◌, ℕ, ◌+◌, List, [], ◌∷◌, ◌++◌, ◌⊎◌, Some, map, length, refl, sym, ap, ◌∙◌, append_assoc, add-zero, length-append, arith}
use Rattle.std.proofs.lemmas.List.{length-map, map-append}
use Rattle.sarif_options.specs.declared.checks.Checks.{Checks}
use Rattle.sarif_read.specs.Reading.{log_of}
use Rattle.sarif_model.specs.Run.{results_total}
use Rattle.sarif_model.specs.declared.merge_fault.MergeFault.{MergeFault}
use Rattle.sarif_model.specs.declared.merge_fault.Source.{Source}
use Rattle.sarif_inputs.specs.declared.sources.ReadSoFar.{ReadSoFar}
use Rattle.sarif_runs.specs.Placed.{Placed}
use Rattle.sarif_runs.specs.Judging.{run_values}
use Rattle.sarif_inputs.specs.Inputs.{Sourced, numbered, placed, placed_from, readable, runs_in}
use Rattle.sarif_model.specs.FirstFault.{first, IsOutOfResources}
use Rattle.sarif_inputs.specs.Internal.ReadRun.{placed_read}
use Rattle.sarif_inputs.specs.Internal.ReadSoFar.{IsCounted, faults_with}
use Rattle.sarif_inputs.specs.SourceFaults.{source_faults, reading_faults, limit_faults}
use Rattle.sarif_model.proofs.SourceAnswers.{still_first}
use Rattle.sarif_inputs.proofs.SourceRuns.{counted_more, total_append, length_placed, data_placed}

faults_step : (checks : Checks) (name : ℕ → Source) (n runs results now all : ℕ) (bytes : List ℕ) (rest : List (List ℕ))
    → now ≡ runs + length (readable (log_of checks.allow_external bytes))
    → all ≡ results + results_total (readable (log_of checks.allow_external bytes))
    → faults_with (name n) (log_of checks.allow_external bytes) runs results ≡ []
    → source_faults now all (numbered checks name (n + 1) rest) ≡ source_faults runs results (numbered checks name n (bytes ∷ rest))
faults_step checks name n runs results now all bytes rest same_now same_all none =
    let then = source_faults (runs + length (readable (log_of checks.allow_external bytes)))
    (results + results_total (readable (log_of checks.allow_external bytes))) (numbered checks name (n + 1) rest) in
    rw (same_now, same_all) (sym (ap (λ faults. faults ++ then) none))

pub source_step : (checks : Checks) (name : ℕ → Source) (n : ℕ) (old new : ReadSoFar) (bytes : List ℕ) (rest : List (List ℕ))
    → map placed_read new.runs.items ≡ map placed_read old.runs.items ++ placed_from checks (name n) 0 (readable (log_of checks.allow_external bytes))
    → new.results ≡ old.results + results_total (readable (log_of checks.allow_external bytes))
    → faults_with (name n) (log_of checks.allow_external bytes) (length old.runs.items) old.results ≡ []
    → (map placed_read new.runs.items ++ placed (numbered checks name (n + 1) rest) ≡ map placed_read old.runs.items
    ++ placed (numbered checks name n (bytes ∷ rest)))
    × (source_faults (length new.runs.items) new.results (numbered checks name (n + 1) rest)
    ≡ source_faults (length old.runs.items) old.results (numbered checks name n (bytes ∷ rest)))
source_step checks name n old new bytes rest runs results none =
    let here = placed_from checks (name n) 0 (readable (log_of checks.allow_external bytes)) in
    let then = placed (numbered checks name (n + 1) rest) in
    let long = counted_more checks old.runs.items new.runs.items (name n) (readable (log_of checks.allow_external bytes)) runs in (
      ap (λ ps. ps ++ then) runs ∙ append_assoc (map placed_read old.runs.items) here then,
      faults_step checks name n (length old.runs.items) old.results (length new.runs.items) new.results bytes rest long.0 results none,
    )

-- ---- the logs, and then the baselines

length_on : (s : Sourced) (rest : List Sourced) → length (placed (s ∷ rest)) ≡ length (runs_in s) + length (placed rest)
length_on s rest =
    let here = placed_from s.checks s.source 0 (runs_in s) in
    length-append here (placed rest) ∙ ap (λ n. n + length (placed rest)) (length_placed s.checks s.source 0 (runs_in s))

total_on : (s : Sourced) (rest : List Sourced)
    → results_total (run_values (placed (s ∷ rest))) ≡ results_total (runs_in s) + results_total (run_values (placed rest))
total_on s rest =
    let here = placed_from s.checks s.source 0 (runs_in s) in
    ap results_total (map-append (λ (p : Placed). p.run) here (placed rest))
    ∙ total_append (run_values here) (run_values (placed rest))
    ∙ ap (λ ds. results_total ds + results_total (run_values (placed rest))) (data_placed s.checks s.source 0 (runs_in s))

pub faults_append : (runs results : ℕ) (ls bs : List Sourced)
    → source_faults runs results (ls ++ bs)
    ≡ source_faults runs results ls ++ source_faults (runs + length (placed ls)) (results + results_total (run_values (placed ls))) bs
faults_append runs results [] bs = rw (add-zero runs, add-zero results) refl
faults_append runs results (s ∷ ls) bs =
    let now = runs + length (runs_in s) in
    let all = results + results_total (runs_in s) in
    let here = reading_faults s.source (log_of s.checks.allow_external s.bytes) ++ limit_faults s.source now all in
    let same_now : now + length (placed ls) ≡ runs + length (placed (s ∷ ls)) = omega (arith, length_on s ls) in
    let same_all : all + results_total (run_values (placed ls)) ≡ results + results_total (run_values (placed (s ∷ ls))) = omega (arith, total_on s ls) in
    ap (λ faults. here ++ faults) (faults_append now all ls bs)
    ∙ sym (append_assoc here (source_faults now all ls) (source_faults (now + length (placed ls)) (all + results_total (run_values (placed ls))) bs))
    ∙ ap (λ n. (here ++ source_faults now all ls) ++ source_faults n (all + results_total (run_values (placed ls))) bs) same_now
    ∙ ap (λ n. (here ++ source_faults now all ls) ++ source_faults (runs + length (placed (s ∷ ls))) n bs) same_all

-- once the logs are read without an error, the remaining errors are those of the baselines
pub faults_after : (ls bs : List Sourced) (reading : ReadSoFar)
    → IsCounted reading → map placed_read reading.runs.items ≡ placed ls → source_faults 0 0 ls ≡ []
    → source_faults 0 0 (ls ++ bs) ≡ source_faults (length reading.runs.items) reading.results bs
faults_after ls bs reading counted runs none =
    let long : 0 + length (placed ls) ≡ length reading.runs.items = omega (arith, ap length runs, length-map reading.runs.items placed_read) in
    let total : 0 + results_total (run_values (placed ls)) ≡ reading.results = omega (arith, counted.2, ap (λ ps. results_total (run_values ps)) runs) in
    let then = source_faults (0 + length (placed ls)) (0 + results_total (run_values (placed ls))) bs in
    faults_append 0 0 ls bs
    ∙ ap (λ faults. faults ++ then) none
    ∙ ap (λ n. source_faults n (0 + results_total (run_values (placed ls))) bs) long
    ∙ ap (λ n. source_faults (length reading.runs.items) n bs) total

module _ (ls bs : List Sourced) (start : ReadSoFar) (no_runs : start.runs.items ≡ []) (no_results : start.results ≡ 0) where
  at_start : (sources : List Sourced) → source_faults (length start.runs.items) start.results sources ≡ source_faults 0 0 sources
  at_start sources = ap (λ vs. source_faults (length vs) start.results sources) no_runs ∙ ap (λ n. source_faults 0 n sources) no_results

  -- a rejection by the logs
  pub refused_by_logs : (e : MergeFault)
      → IsOutOfResources e ⊎ (first (source_faults (length start.runs.items) start.results ls) ≡ Some e)
      → IsOutOfResources e ⊎ (first (source_faults 0 0 (ls ++ bs)) ≡ Some e)
  refused_by_logs e refused =
      let here = still_first (source_faults 0 0 ls)
      (source_faults (0 + length (placed ls)) (0 + results_total (run_values (placed ls))) bs) e (rw (at_start ls) at refused) in
      rw (faults_append 0 0 ls bs) here

  -- after the logs are read, the errors are those of the baselines
  pub left_after_logs : (reading : ReadSoFar)
      → IsCounted reading
      → map placed_read reading.runs.items ≡ map placed_read start.runs.items ++ placed ls
      → source_faults (length start.runs.items) start.results ls ≡ []
      → source_faults 0 0 (ls ++ bs) ≡ source_faults (length reading.runs.items) reading.results bs
  left_after_logs reading counted runs none =
      faults_after ls bs reading counted (runs ∙ ap (λ vs. map placed_read vs ++ placed ls) no_runs) (sym (at_start ls) ∙ none)
