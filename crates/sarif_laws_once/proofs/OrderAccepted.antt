-- Logs that can be read have no errors in another order.
use Rattle.std.proofs.Common.{◌≡◌, ◌+◌, ◌≤◌, ℕ, List, [], ◌∷◌, ◌++◌, length, refl, sym, ap, ap₂, ◌∙◌, arith}
use Rattle.std.specs.Prelude.{Result, Ok, Err}
use Rattle.std.specs.List.Sorted.{IsPermutation}
use Rattle.std.proofs.lemmas.List.Recursion.{is_sum_by}
use Rattle.std.proofs.lemmas.List.Sorted.{length_permutation, sum_by-IsPermutation}
use Rattle.serde_json.specs.Data.{Data}
use Rattle.sarif_model.specs.declared.merge_fault.Source.{Source}
use Rattle.sarif_model.specs.declared.merge_fault.Source.TheVariants.{Baseline, Log}
use Rattle.sarif_model.specs.Run.{results_total}
use Rattle.sarif_options.specs.declared.checks.Checks.{Checks}
use Rattle.sarif_read.specs.declared.read_fault.ReadFault.{ReadFault}
use Rattle.sarif_read.specs.Reading.{log_of}
use Rattle.sarif_runs.specs.Judging.{faults_of_runs}
use Rattle.sarif_inputs.specs.Faults.{faults_of}
use Rattle.sarif_inputs.specs.Inputs.{Inputs, Sourced, numbered, placed, readable, reading_checks}
use Rattle.sarif_inputs.specs.SourceFaults.{limit_faults, reading_faults, source_faults}
use Rattle.sarif_inputs_laws.proofs.Parts.{all_faults, apart_faults}
use Rattle.sarif_inputs_laws.proofs.Renumbered.{both_empty, faults-append, none_both, placed-append, placed_alike, runs_faultless}
use Rattle.sarif_inputs_laws.proofs.Sources.{fewer_limits, fewer_sources, front_and_back, here, numbered-append, one_after_other, results_sum, runs_total}
use Rattle.sarif_laws_once.specs.MoreLogs.{with_logs}

-- ---- sums over logs

abbrev sum_of : (List ℕ → ℕ) → List (List ℕ) → ℕ
sum_of f [] = 0
sum_of f (bytes ∷ logs) = f bytes + sum_of f logs

sum_in_order : (f : List ℕ → ℕ) (one other : List (List ℕ)) → IsPermutation one other → sum_of f other ≡ sum_of f one
sum_in_order f one other permuted =
    is_sum_by (sum_of f) f refl (λ x xs. refl) other ∙ sum_by-IsPermutation f one other permuted
    ∙ sym (is_sum_by (sum_of f) f refl (λ x xs. refl) one)

none_of : {X : Type 0} (xs : List X) → length xs ≡ 0 → xs ≡ []
none_of [] none = refl
none_of (x ∷ xs) none = absurd (omega (arith, none))

module _ (checks : Checks) where
  abbrev read_of : List ℕ → Result (List Data) ReadFault
  read_of bytes = log_of checks.allow_external bytes

  -- what is summed of a log: its errors of reading, its runs, its results, and the errors of these
  abbrev unread : List ℕ → ℕ
  unread bytes = length (reading_faults (Log 0) (read_of bytes))

  abbrev runs : List ℕ → ℕ
  runs bytes = length (readable (read_of bytes))

  abbrev results : List ℕ → ℕ
  results bytes = results_total (readable (read_of bytes))

  abbrev faulty : List ℕ → ℕ
  faulty bytes = length (faults_of_runs (placed (numbered checks Log 0 (bytes ∷ []))))

  all_runs : (n : ℕ) (logs : List (List ℕ)) → runs_total (numbered checks Log n logs) ≡ sum_of runs logs
  all_runs n [] = refl
  all_runs n (bytes ∷ logs) = ap (λ m. runs bytes + m) (all_runs (n + 1) logs)

  all_results : (n : ℕ) (logs : List (List ℕ)) → results_sum (numbered checks Log n logs) ≡ sum_of results logs
  all_results n [] = refl
  all_results n (bytes ∷ logs) = ap (λ m. results bytes + m) (all_results (n + 1) logs)

  -- ---- reading

  read_here : (s t : Source) (r : Result (List Data) ReadFault) → reading_faults s r ≡ [] → reading_faults t r ≡ []
  read_here s t (Ok found) none = refl
  read_here s t (Err fault) none = let never : ⊥ = cc in absurd never

  all_read : (m n k : ℕ) (logs : List (List ℕ)) → source_faults m n (numbered checks Log k logs) ≡ [] → sum_of unread logs ≡ 0
  all_read m n k [] none = refl
  all_read m n k (bytes ∷ logs) none =
      let s : Sourced = record { source = Log k; bytes = bytes; checks = checks } in
      let parts = both_empty (here m n s) (source_faults (m + runs bytes) (n + results bytes) (numbered checks Log (k + 1) logs)) none in
      let first = both_empty (reading_faults (Log k) (read_of bytes)) (limit_faults (Log k) (m + runs bytes) (n + results bytes)) parts.0 in
      let here_none : unread bytes ≡ 0 = ap length (read_here (Log k) (Log 0) (read_of bytes) first.0) in
      let rest = all_read (m + runs bytes) (n + results bytes) (k + 1) logs parts.1 in
      omega (arith, here_none, rest)

  -- ---- limits

  same_limits : (s t : Source) (m n : ℕ) → limit_faults s m n ≡ [] → limit_faults t m n ≡ []
  same_limits s t m n none =
      let le_m : m ≤ m = omega arith in let le_n : n ≤ n = omega arith in fewer_limits s t m n m n le_m le_n none

  at_the_end : (m n k : ℕ) (logs : List (List ℕ)) → limit_faults (Log 0) m n ≡ [] → source_faults m n (numbered checks Log k logs) ≡ []
      → limit_faults (Log 0) (m + sum_of runs logs) (n + sum_of results logs) ≡ []
  at_the_end m n k [] first none =
      let same_m : m + 0 ≡ m = omega arith in
      let same_n : n + 0 ≡ n = omega arith in
      ap₂ (limit_faults (Log 0)) same_m same_n ∙ first
  at_the_end m n k (bytes ∷ logs) first none =
      let s : Sourced = record { source = Log k; bytes = bytes; checks = checks } in
      let now = m + runs bytes in
      let all = n + results bytes in
      let parts = both_empty (here m n s) (source_faults now all (numbered checks Log (k + 1) logs)) none in
      let limits = both_empty (reading_faults (Log k) (read_of bytes)) (limit_faults (Log k) now all) parts.0 in
      let same_m : m + (runs bytes + sum_of runs logs) ≡ now + sum_of runs logs = omega arith in
      let same_n : n + (results bytes + sum_of results logs) ≡ all + sum_of results logs = omega arith in
      ap₂ (limit_faults (Log 0)) same_m same_n
      ∙ at_the_end now all (k + 1) logs (same_limits (Log k) (Log 0) now all limits.1) parts.1

  none_on_the_way : (m n k : ℕ) (logs : List (List ℕ)) → sum_of unread logs ≡ 0
      → limit_faults (Log 0) (m + sum_of runs logs) (n + sum_of results logs) ≡ [] → source_faults m n (numbered checks Log k logs) ≡ []
  none_on_the_way m n k [] read last = refl
  none_on_the_way m n k (bytes ∷ logs) read last =
      let s : Sourced = record { source = Log k; bytes = bytes; checks = checks } in
      let now = m + runs bytes in
      let all = n + results bytes in
      let here_none : unread bytes ≡ 0 = omega (arith, read) in
      let rest_none : sum_of unread logs ≡ 0 = omega (arith, read) in
      let few_m : now ≤ m + (runs bytes + sum_of runs logs) = omega arith in
      let few_n : all ≤ n + (results bytes + sum_of results logs) = omega arith in
      let same_m : now + sum_of runs logs ≡ m + (runs bytes + sum_of runs logs) = omega arith in
      let same_n : all + sum_of results logs ≡ n + (results bytes + sum_of results logs) = omega arith in
      none_both (here m n s) (source_faults now all (numbered checks Log (k + 1) logs))
      (none_both (reading_faults (Log k) (read_of bytes)) (limit_faults (Log k) now all)
      (read_here (Log 0) (Log k) (read_of bytes) (none_of (reading_faults (Log 0) (read_of bytes)) here_none))
      (fewer_limits (Log 0) (Log k) (m + (runs bytes + sum_of runs logs)) (n + (results bytes + sum_of results logs)) now all few_m few_n last))
      (none_on_the_way now all (k + 1) logs rest_none (ap₂ (limit_faults (Log 0)) same_m same_n ∙ last))

  -- ---- runs

  apart : (k : ℕ) (bytes : List ℕ) (logs : List (List ℕ))
      → placed (numbered checks Log k (bytes ∷ logs)) ≡ placed (numbered checks Log k (bytes ∷ [])) ++ placed (numbered checks Log (k + 1) logs)
  apart k bytes logs =
      ap placed (numbered-append checks Log k (bytes ∷ []) logs)
      ∙ placed-append (numbered checks Log k (bytes ∷ [])) (numbered checks Log (k + 1) logs)

  moved : (j k : ℕ) (bytes : List ℕ) → faults_of_runs (placed (numbered checks Log j (bytes ∷ []))) ≡ []
      → faults_of_runs (placed (numbered checks Log k (bytes ∷ []))) ≡ []
  moved j k bytes none =
      runs_faultless (placed (numbered checks Log j (bytes ∷ []))) (placed (numbered checks Log k (bytes ∷ [])))
      (placed_alike checks Log (λ a b. refl) (λ a b. refl) j k (bytes ∷ [])) none

  none_faulty : (k : ℕ) (logs : List (List ℕ)) → faults_of_runs (placed (numbered checks Log k logs)) ≡ [] → sum_of faulty logs ≡ 0
  none_faulty k [] none = refl
  none_faulty k (bytes ∷ logs) none =
      let one = placed (numbered checks Log k (bytes ∷ [])) in
      let more = placed (numbered checks Log (k + 1) logs) in
      let parts = both_empty (faults_of_runs one) (faults_of_runs more)
      (sym (faults-append one more) ∙ ap faults_of_runs (sym (apart k bytes logs)) ∙ none) in
      let first : faulty bytes ≡ 0 = ap length (moved k 0 bytes parts.0) in
      let rest = none_faulty (k + 1) logs parts.1 in
      omega (arith, first, rest)

  all_sound : (k : ℕ) (logs : List (List ℕ)) → sum_of faulty logs ≡ 0 → faults_of_runs (placed (numbered checks Log k logs)) ≡ []
  all_sound k [] none = refl
  all_sound k (bytes ∷ logs) none =
      let one = placed (numbered checks Log k (bytes ∷ [])) in
      let more = placed (numbered checks Log (k + 1) logs) in
      let first : faulty bytes ≡ 0 = omega (arith, none) in
      let rest : sum_of faulty logs ≡ 0 = omega (arith, none) in
      ap faults_of_runs (apart k bytes logs) ∙ faults-append one more
      ∙ none_both (faults_of_runs one) (faults_of_runs more)
      (moved 0 k bytes (none_of (faults_of_runs (placed (numbered checks Log 0 (bytes ∷ [])))) first))
      (all_sound (k + 1) logs rest)

-- ---- inputs

pub none_in_any_order : (inputs : Inputs) (logs : List (List ℕ)) → IsPermutation inputs.logs logs → faults_of inputs ≡ []
    → faults_of (with_logs inputs logs) ≡ []
none_in_any_order inputs logs permuted none =
    let checks = reading_checks inputs in
    let fine = apart_faults inputs none in
    let old = numbered checks Log 0 inputs.logs in
    let new = numbered checks Log 0 logs in
    let before = numbered checks Baseline 0 inputs.baselines in
    let many = length_permutation inputs.logs logs permuted in
    let halves = front_and_back 0 0 old before fine.sources in
    let same_runs : runs_total new ≡ runs_total old =
    all_runs checks 0 logs ∙ sum_in_order (runs checks) inputs.logs logs permuted ∙ sym (all_runs checks 0 inputs.logs) in
    let same_results : results_sum new ≡ results_sum old =
    all_results checks 0 logs ∙ sum_in_order (results checks) inputs.logs logs permuted ∙ sym (all_results checks 0 inputs.logs) in
    let last =
    ap₂ (λ m n. limit_faults (Log 0) (0 + m) (0 + n)) (sum_in_order (runs checks) inputs.logs logs permuted)
    (sum_in_order (results checks) inputs.logs logs permuted)
    ∙ at_the_end checks 0 0 0 inputs.logs refl halves.0 in
    let read = sum_in_order (unread checks) inputs.logs logs permuted ∙ all_read checks 0 0 0 inputs.logs halves.0 in
    all_faults (with_logs inputs logs) (record {
      logs = fewer_sources Log inputs.logs logs (omega (arith, many)) fine.logs;
      baselines = fine.baselines;
      sources =
          one_after_other 0 0 new before (none_on_the_way checks 0 0 0 logs read last)
          (ap₂ (λ m n. source_faults (0 + m) (0 + n) before) same_runs same_results ∙ halves.1);
      file = fine.file;
      policy = fine.policy;
      change = fine.change;
      log_runs = all_sound checks 0 logs
          (sum_in_order (faulty checks) inputs.logs logs permuted ∙ none_faulty checks 0 inputs.logs fine.log_runs);
      older_runs = fine.older_runs;
    })
