-- Parts of an accepted merge are accepted, and by tool they are matched as all of it.
use Rattle.std.proofs.Common.{◌≡◌, ◌+◌, ◌≤◌, ℕ, List, [], ◌++◌, length, refl, sym, ap, ap₂, ◌∙◌, arith}
use Rattle.std.proofs.lemmas.List.{length-append, map-append}
use Rattle.std.specs.Prelude.{is_some}
use Rattle.sarif_model.specs.declared.merge_fault.Source.{Source}
use Rattle.sarif_model.specs.declared.merge_fault.Source.TheVariants.{Baseline, Log}
use Rattle.sarif_evidence.specs.declared.version.MatchingVersion.{MatchingVersion}
use Rattle.sarif_match.specs.Partners.{partners_in}
use Rattle.sarif_match_laws.specs.ByTool.{HaveNoToolInCommon}
use Rattle.sarif_match_laws.proofs.ByTool.{matched_apart}
use Rattle.sarif_options.specs.declared.checks.Checks.{Checks}
use Rattle.sarif_entries.specs.Given.{file_or_none}
use Rattle.sarif_suppress.specs.Limited.{limited}
use Rattle.sarif_suppress.specs.Suppressing.{is_unused}
use Rattle.sarif_runs.specs.Judging.{faults_of_runs, records_of, run_values, skips}
use Rattle.sarif_runs.specs.Placed.{Placed}
use Rattle.sarif_inputs.specs.ChangeIn.{change_read, faults_of_change}
use Rattle.sarif_inputs.specs.Faults.{faults_of, file_faults, number_faults}
use Rattle.sarif_inputs.specs.Inputs.{Inputs, Sourced, baseline_runs, input_runs, must_succeed, numbered, placed, reading_checks}
use Rattle.sarif_inputs.specs.PolicyIn.{faults_of_policy, policy_read}
use Rattle.sarif_inputs.specs.SourceFaults.{source_faults}
use Rattle.sarif_inputs_laws.specs.Parts.{HasParts, IsMatchedAs, baseline_in, current_in, with_sources}
use Rattle.sarif_inputs_laws.proofs.Renumbered.{both_empty, faults-append, none_both, placed-append, placed_alike, records-append, records_alike, runs_faultless, values_alike}
use Rattle.sarif_inputs_laws.proofs.Sources.{after_fewer, fewer_sources, front_and_back, numbered-append, one_after_other, results-append, results_numbered, results_sum, runs-append, runs_numbered, runs_total}
use Rattle.sarif_inputs_laws.proofs.Unused.{unused_both}

-- ---- the runs of sources and then of others

module _ (checks : Checks) (name : ℕ → Source) (skip : (m n : ℕ) → skips (name m) ≡ skips (name n))
    (must : (m n : ℕ) → must_succeed checks (name m) ≡ must_succeed checks (name n)) (xs ys : List (List ℕ)) where
  abbrev first : List Placed
  first = placed (numbered checks name 0 xs)

  abbrev second : List Placed
  second = placed (numbered checks name 0 ys)

  abbrev second_there : List Placed
  second_there = placed (numbered checks name (0 + length xs) ys)

  placed_both : placed (numbered checks name 0 (xs ++ ys)) ≡ first ++ second_there
  placed_both = ap placed (numbered-append checks name 0 xs ys) ∙ placed-append (numbered checks name 0 xs) (numbered checks name (0 + length xs) ys)

  records_both : records_of (placed (numbered checks name 0 (xs ++ ys))) ≡ records_of first ++ records_of second
  records_both =
      ap records_of placed_both ∙ records-append first second_there
      ∙ ap (λ l. records_of first ++ l) (records_alike second_there second (placed_alike checks name skip must (0 + length xs) 0 ys))

  values_both : run_values (placed (numbered checks name 0 (xs ++ ys))) ≡ run_values first ++ run_values second
  values_both =
      ap run_values placed_both ∙ map-append (λ (p : Placed). p.run) first second_there
      ∙ ap (λ l. run_values first ++ l) (values_alike second_there second (placed_alike checks name skip must (0 + length xs) 0 ys))

  faultless_both : faults_of_runs (placed (numbered checks name 0 (xs ++ ys))) ≡ [] → (faults_of_runs first ≡ []) × (faults_of_runs second ≡ [])
  faultless_both none =
      let parts = both_empty (faults_of_runs first) (faults_of_runs second_there)
      (sym (faults-append first second_there) ∙ ap faults_of_runs (sym placed_both) ∙ none) in
      (parts.0, runs_faultless second_there second (placed_alike checks name skip must (0 + length xs) 0 ys) parts.1)

-- ---- acceptance

pub record IsFaultless (inputs : Inputs) : Type 0 where
  pub logs : number_faults Log inputs.logs ≡ []
  pub baselines : number_faults Baseline inputs.baselines ≡ []
  pub sources : source_faults 0 0 (numbered (reading_checks inputs) Log 0 inputs.logs ++ numbered (reading_checks inputs) Baseline 0 inputs.baselines) ≡ []
  pub file : file_faults (file_or_none inputs.suppressions inputs.today) ≡ []
  pub policy : faults_of_policy (policy_read (is_some inputs.diff) inputs.policy) ≡ []
  pub change : faults_of_change (change_read inputs.checks inputs.diff) ≡ []
  pub log_runs : faults_of_runs (input_runs inputs) ≡ []
  pub older_runs : faults_of_runs (baseline_runs inputs) ≡ []

pub apart_faults : (inputs : Inputs) → faults_of inputs ≡ [] → IsFaultless inputs
apart_faults inputs none =
    let sources = numbered (reading_checks inputs) Log 0 inputs.logs ++ numbered (reading_checks inputs) Baseline 0 inputs.baselines in
    let file = file_faults (file_or_none inputs.suppressions inputs.today) in
    let policy = faults_of_policy (policy_read (is_some inputs.diff) inputs.policy) in
    let change = faults_of_change (change_read inputs.checks inputs.diff) in
    let runs = faults_of_runs (input_runs inputs ++ baseline_runs inputs) in
    let one = both_empty (number_faults Log inputs.logs) (number_faults Baseline inputs.baselines ++ (source_faults 0 0 sources ++ (file ++ (policy ++ (change ++ runs))))) none in
    let two = both_empty (number_faults Baseline inputs.baselines) (source_faults 0 0 sources ++ (file ++ (policy ++ (change ++ runs)))) one.1 in
    let three = both_empty (source_faults 0 0 sources) (file ++ (policy ++ (change ++ runs))) two.1 in
    let four = both_empty file (policy ++ (change ++ runs)) three.1 in
    let five = both_empty policy (change ++ runs) four.1 in
    let six = both_empty change runs five.1 in
    let seven = both_empty (faults_of_runs (input_runs inputs)) (faults_of_runs (baseline_runs inputs))
    (sym (faults-append (input_runs inputs) (baseline_runs inputs)) ∙ six.1) in
    record {
      logs = one.0;
      baselines = two.0;
      sources = three.0;
      file = four.0;
      policy = five.0;
      change = six.0;
      log_runs = seven.0;
      older_runs = seven.1;
    }

pub all_faults : (inputs : Inputs) → IsFaultless inputs → faults_of inputs ≡ []
all_faults inputs none =
    let sources = numbered (reading_checks inputs) Log 0 inputs.logs ++ numbered (reading_checks inputs) Baseline 0 inputs.baselines in
    let file = file_faults (file_or_none inputs.suppressions inputs.today) in
    let policy = faults_of_policy (policy_read (is_some inputs.diff) inputs.policy) in
    let change = faults_of_change (change_read inputs.checks inputs.diff) in
    let runs = faults_of_runs (input_runs inputs ++ baseline_runs inputs) in
    none_both (number_faults Log inputs.logs) (number_faults Baseline inputs.baselines ++ (source_faults 0 0 sources ++ (file ++ (policy ++ (change ++ runs))))) none.logs
    (none_both (number_faults Baseline inputs.baselines) (source_faults 0 0 sources ++ (file ++ (policy ++ (change ++ runs)))) none.baselines
    (none_both (source_faults 0 0 sources) (file ++ (policy ++ (change ++ runs))) none.sources
    (none_both file (policy ++ (change ++ runs)) none.file
    (none_both policy (change ++ runs) none.policy
    (none_both change runs none.change
    (faults-append (input_runs inputs) (baseline_runs inputs)
    ∙ none_both (faults_of_runs (input_runs inputs)) (faults_of_runs (baseline_runs inputs)) none.log_runs none.older_runs))))))

-- sources that are read in two parts
module _ (checks : Checks) (logs more baselines others : List (List ℕ)) where
  abbrev L : List Sourced
  L = numbered checks Log 0 logs

  abbrev M : List Sourced
  M = numbered checks Log (0 + length logs) more

  abbrev B : List Sourced
  B = numbered checks Baseline 0 baselines

  abbrev O : List Sourced
  O = numbered checks Baseline (0 + length baselines) others

  module _ (none : source_faults 0 0 (numbered checks Log 0 (logs ++ more) ++ numbered checks Baseline 0 (baselines ++ others)) ≡ []) where
    halves : (source_faults 0 0 (L ++ M) ≡ []) × (source_faults (0 + runs_total (L ++ M)) (0 + results_sum (L ++ M)) (B ++ O) ≡ [])
    halves =
        front_and_back 0 0 (L ++ M) (B ++ O)
        (ap₂ (λ l r. source_faults 0 0 (l ++ r)) (sym (numbered-append checks Log 0 logs more)) (sym (numbered-append checks Baseline 0 baselines others)) ∙ none)

    log_halves : (source_faults 0 0 L ≡ []) × (source_faults (0 + runs_total L) (0 + results_sum L) M ≡ [])
    log_halves = front_and_back 0 0 L M halves.0

    older_halves : (source_faults (0 + runs_total (L ++ M)) (0 + results_sum (L ++ M)) B ≡ [])
        × (source_faults (0 + runs_total (L ++ M) + runs_total B) (0 + results_sum (L ++ M) + results_sum B) O ≡ [])
    older_halves = front_and_back (0 + runs_total (L ++ M)) (0 + results_sum (L ++ M)) B O halves.1

    first_sources : source_faults 0 0 (L ++ B) ≡ []
    first_sources =
        let runs = runs-append L M in
        let results = results-append L M in
        one_after_other 0 0 L B log_halves.0
        (after_fewer checks Baseline 0 0 (0 + runs_total (L ++ M)) (0 + results_sum (L ++ M)) (0 + runs_total L) (0 + results_sum L) baselines
        (omega (arith, runs)) (omega (arith, results)) older_halves.0)

    second_sources : source_faults 0 0 (numbered checks Log 0 more ++ numbered checks Baseline 0 others) ≡ []
    second_sources =
        let own = numbered checks Log 0 more in
        let runs = runs-append L M in
        let results = results-append L M in
        let same_runs = runs_numbered checks Log (0 + length logs) 0 more in
        let same_results = results_numbered checks Log (0 + length logs) 0 more in
        one_after_other 0 0 own (numbered checks Baseline 0 others)
        (after_fewer checks Log (0 + length logs) 0 (0 + runs_total L) (0 + results_sum L) 0 0 more (omega arith) (omega arith) log_halves.1)
        (after_fewer checks Baseline (0 + length baselines) 0 (0 + runs_total (L ++ M) + runs_total B) (0 + results_sum (L ++ M) + results_sum B)
        (0 + runs_total own) (0 + results_sum own) others (omega (arith, runs, same_runs)) (omega (arith, results, same_results)) older_halves.1)

-- ---- the laws

module _ (inputs : Inputs) (logs more baselines others : List (List ℕ)) where
  abbrev one : Inputs
  one = with_sources inputs logs baselines

  abbrev other : Inputs
  other = with_sources inputs more others

  abbrev both : Inputs
  both = with_sources inputs (logs ++ more) (baselines ++ others)

  current_both : current_in both ≡ current_in one ++ current_in other
  current_both = records_both (reading_checks inputs) Log (λ m n. refl) (λ m n. refl) logs more

  baseline_both : baseline_in both ≡ baseline_in one ++ baseline_in other
  baseline_both = records_both (reading_checks inputs) Baseline (λ m n. refl) (λ m n. refl) baselines others

  few : (xs ys : List (List ℕ)) → (length xs ≤ length (xs ++ ys)) × (length ys ≤ length (xs ++ ys))
  few xs ys = let long = length-append xs ys in (omega (arith, long), omega (arith, long))

  module _ (none : faults_of both ≡ []) where
    faultless : IsFaultless both
    faultless = apart_faults both none

    log_parts : (faults_of_runs (input_runs one) ≡ []) × (faults_of_runs (input_runs other) ≡ [])
    log_parts = faultless_both (reading_checks inputs) Log (λ m n. refl) (λ m n. refl) logs more faultless.log_runs

    older_parts : (faults_of_runs (baseline_runs one) ≡ []) × (faults_of_runs (baseline_runs other) ≡ [])
    older_parts = faultless_both (reading_checks inputs) Baseline (λ m n. refl) (λ m n. refl) baselines others faultless.older_runs

    first_accepted : faults_of one ≡ []
    first_accepted = all_faults one (record {
      logs = fewer_sources Log (logs ++ more) logs (few logs more).0 faultless.logs;
      baselines = fewer_sources Baseline (baselines ++ others) baselines (few baselines others).0 faultless.baselines;
      sources = first_sources (reading_checks inputs) logs more baselines others faultless.sources;
      file = faultless.file;
      policy = faultless.policy;
      change = faultless.change;
      log_runs = log_parts.0;
      older_runs = older_parts.0;
    })

    second_accepted : faults_of other ≡ []
    second_accepted = all_faults other (record {
      logs = fewer_sources Log (logs ++ more) more (few logs more).1 faultless.logs;
      baselines = fewer_sources Baseline (baselines ++ others) others (few baselines others).1 faultless.baselines;
      sources = second_sources (reading_checks inputs) logs more baselines others faultless.sources;
      file = faultless.file;
      policy = faultless.policy;
      change = faultless.change;
      log_runs = log_parts.1;
      older_runs = older_parts.1;
    })

    pub accepted_parts : HasParts one other both
    accepted_parts = record {
      first_faultless = first_accepted;
      second_faultless = second_accepted;
      logs = values_both (reading_checks inputs) Log (λ m n. refl) (λ m n. refl) logs more;
      baselines = values_both (reading_checks inputs) Baseline (λ m n. refl) (λ m n. refl) baselines others;
      current = current_both;
      baseline = baseline_both;
      unused = λ given today file n e is at.
          ap (λ rs. is_unused file (limited file rs) e) current_both ∙ unused_both given today file (current_in one) (current_in other) n e is at;
    }

  pub matched_parts : (version : MatchingVersion) → HaveNoToolInCommon (current_in one ++ baseline_in one) (current_in other ++ baseline_in other)
      → IsMatchedAs version one other both
  matched_parts version apart =
      let each = matched_apart version (current_in one) (baseline_in one) (current_in other) (baseline_in other) apart in record {
        partners = ap₂ (partners_in version) current_both baseline_both ∙ each.partners;
        each = each;
      }
