-- What each step of a merge makes, from what its calls give.
use Rattle.std.proofs.Common.{◌≡◌, ℕ, ◌≤◌, ◌++◌, ◌⊎◌, List, [], ◌||◌, true, false, Option, Some, None, option_map, Result, Ok, Vec, Global, inl, inr, length, map, arith, refl, sym, ap, subst, ◌∙◌, append-nil}
use Rattle.std.proofs.lemmas.List.{length-map}
use Rattle.std.specs.Prelude.{Bool, is_some}
use Rattle.std.specs.List.{AllByRecursion}
use Rattle.json.specs.Token.{Token}
use Rattle.json_parts.specs.Mark.{without_mark}
use Rattle.sarif_inputs.specs.Internal.Together.{AreIndexed}
use Rattle.json_parts.specs.declared.indexing.IndexFault.{IndexFault}
use Rattle.sarif_model.specs.FirstFault.{first, IsOutOfResources}
use Rattle.sarif_model.specs.Limits.{most_results, most_runs, most_sources}
use Rattle.sarif_model.specs.MergeFault.{exit_status, out_of_memory}
use Rattle.sarif_model.specs.Run.{results_total}
use Rattle.sarif_model.specs.declared.merge_fault.MergeFault.{MergeFault}
use Rattle.sarif_model.specs.declared.merge_fault.Source.TheVariants.{Log, Baseline}
use Rattle.sarif_model.proofs.SourceAnswers.{still_first}
use Rattle.sarif_entries.specs.File.{File}
use Rattle.sarif_runs.specs.Judging.{faults_of_runs, run_values, skips}
use Rattle.sarif_runs.specs.Internal.Opened.{placed_of}
use Rattle.sarif_runs.specs.Placed.{Placed}
use Rattle.sarif_runs.specs.declared.opened.OpenedRun.{OpenedRun}
use Rattle.sarif_results.specs.Drafts.{IsRun}
use Rattle.sarif_results.specs.Internal.Judged.{IsJudged, placed_in}
use Rattle.sarif_results.specs.Internal.Outcomes.{all_outcomes}
use Rattle.sarif_results.specs.declared.judged.Judged.{Judged}
use Rattle.sarif_inputs.specs.ChangeIn.{change_or_none, change_read, faults_of_change}
use Rattle.sarif_inputs.specs.Faults.{faults_of, file_faults}
use Rattle.sarif_inputs.specs.PolicyIn.{conditions_or_none, faults_of_policy, policy_read}
use Rattle.sarif_policy.specs.declared.condition.GateCondition.{GateCondition}
use Rattle.sarif_scope.specs.declared.gated.GatedChange.{GatedChange}
use Rattle.sarif_entries.specs.Given.{file_or_none}
use Rattle.sarif_inputs.specs.Internal.Indexes.{AreIndexesOf}
use Rattle.sarif_inputs.specs.Inputs.{all_runs, all_sources, baseline_runs, input_runs, numbered, placed, reading_checks}
use Rattle.sarif_inputs.specs.Internal.ReadSoFar.{sources_of}
use Rattle.sarif_inputs.specs.Snippets.{compare_snippets, with_regions_if}
use Rattle.sarif_inputs.proofs.ReadAgain.{faults_read, length_read, regions_read, values_read}
use Rattle.sarif_inputs.specs.Internal.Runs.{AreRunsOf}
use Rattle.sarif_inputs.specs.SourceFaults.{source_faults}
use Rattle.sarif_inputs.specs.declared.sources.Runs.{Runs}
use Rattle.sarif_inputs.proofs.ReadFacts.{baseline_sides, log_sides}
use Rattle.sarif_log.specs.Counted.{IsMergedAs}
use Rattle.sarif_log.specs.LogBy.{expired_of, limited_records}
use Rattle.sarif_log.specs.declared.copies.CopyPlace.{CopyPlace}
use Rattle.serde_json.specs.Data.{Data}
use Rattle.sarif_prepare.specs.By.{merge_by, IsPreparedBy}
use Rattle.sarif_prepare.specs.Kept.{IsKept, IsUnkept}
use Rattle.sarif_prepare.specs.Asked.{choice_in, reporting_in, upkeep_in}
use Rattle.sarif_log.specs.Internal.Prepared.{IsPreparedAs}
use Rattle.sarif_log.specs.declared.merged.Merged.{Merged}
use Rattle.sarif_log.specs.declared.prepared.Prepared.{Prepared}
use Rattle.sarif_findings.specs.declared.finding.Finding.{Finding}
use Rattle.sarif_upkeep.specs.Internal.IsMatched.{IsFileOf}
use Rattle.sarif_upkeep.specs.Life.{life_faults}
use Rattle.sarif_merge.specs.Life.{IsLifeOf, IsRefusal}
use Rattle.sarif_merge.specs.Merged.{IsMerged}
use Rattle.sarif_conditions.specs.declared.facts.PolicyFacts.{PolicyFacts}
use Rattle.sarif_merge.specs.MergedLog.{change_given, conditions_given, file_given, file_in}
use Rattle.sarif_merge.specs.Internal.Steps.{AreBaselinesJudged, AreBaselinesOpened, AreBaselinesReady, AreIndexesIn, AreLogsJudged, AreLogsOpened, AreLogsReady, AreLogsSound, AreOpened, IsChangeIn, IsFileIn, IsMergeOf, IsPolicyIn, IsReady, IsRead, IsRejection, change_read_in, checks_in, inputs_in, policy_in, policy_read_in}
use Rattle.sarif_merge.specs.declared.steps.Merging.{Merging}
use Rattle.sarif_merge.proofs.ReadObjects.{objects_in}
use Rattle.sarif_merge.proofs.MergeAnswers.{are_indexes, assembled_is, faults_apart, left_after_first, number_is_no_fault, same_kept, same_large, same_runs}
use Rattle.sarif_merge.proofs.Unkept.{file_was_read, unkept_quiet}

-- ---- rejections

pub lacks_memory : (m : Merging) → IsRejection m out_of_memory
unfolding IsRejection
lacks_memory m = (inl (inl (inl refl)), refl)

-- the first of these errors, if they are those of the inputs, or begin them
rejected_by : (m : Merging) (these others : List MergeFault) (fault : MergeFault) → faults_of (inputs_in m) ≡ these ++ others
    → IsOutOfResources fault ⊎ (first these ≡ Some fault) → exit_status fault.cause ≡ 2 → IsRejection m fault
unfolding IsRejection
rejected_by m these others fault are found quiet =
    (inl (subst (λ faults. IsOutOfResources fault ⊎ (first faults ≡ Some fault)) (sym are) (still_first these others fault found)), quiet)

-- ---- index

pub indexed_in : (m : Merging) (ls bs : List (Vec ℕ Global)) (indexes : List (Result (List Token) IndexFault)) → ls ≡ m.sources.now.logs.items
    → bs ≡ m.sources.now.baselines.items
    → length m.sources.now.logs.items ≤ most_sources → length m.sources.now.baselines.items ≤ most_sources
    → AreIndexed (map without_mark (map (λ v. v.items) ls ++ map (λ v. v.items) bs)) indexes → AreIndexesIn m indexes
unfolding AreIndexesIn
indexed_in m ls bs indexes is_ls is_bs few_ls few_bs indexed =
    let logs = m.sources.now.logs.items in
    let baselines = m.sources.now.baselines.items in
    are_indexes logs baselines indexes (length logs) refl few_ls few_bs
    (subst (λ (xs : List (Vec ℕ Global)). AreIndexed (map without_mark (map (λ v. v.items) xs ++ map (λ v. v.items) baselines)) indexes) is_ls
    (subst (λ (ys : List (Vec ℕ Global)). AreIndexed (map without_mark (map (λ v. v.items) ls ++ map (λ v. v.items) ys)) indexes) is_bs indexed))

-- ---- open

pub are_indexes_in : (m : Merging) (indexes : List (Result (List Token) IndexFault)) → AreIndexesIn m indexes
    → AreIndexesOf (inputs_in m).logs (inputs_in m).baselines indexes (length m.sources.now.logs.items)
unfolding AreIndexesIn
are_indexes_in m indexes are = are

pub logs_opened : (m : Merging) (runs : Runs) → AreRunsOf (inputs_in m).checks (inputs_in m).logs (inputs_in m).baselines runs
    → AreLogsOpened m runs.current.items
unfolding AreLogsOpened
logs_opened m runs read = record { are = read.current; few = omega (arith, read.few); few_results = omega (arith, read.few_results) }

pub baselines_opened : (m : Merging) (runs : Runs) → AreRunsOf (inputs_in m).checks (inputs_in m).logs (inputs_in m).baselines runs
    → AreBaselinesOpened m runs.baseline.items
unfolding AreBaselinesOpened
baselines_opened m runs read = record { are = read.baseline; few = omega (arith, read.few); few_results = omega (arith, read.few_results) }

-- the errors of the diff and of the runs
abbrev after_policy : Merging → List MergeFault
after_policy m = faults_of_change (change_read_in m) ++ faults_of_runs (all_runs (inputs_in m))

-- the errors of the policy, of the diff and of the runs
abbrev after_file : Merging → List MergeFault
after_file m = faults_of_policy (policy_read_in m) ++ after_policy m

-- what is left of the errors once the sources are read
after_sources : (m : Merging) → length (inputs_in m).logs ≤ most_sources → length (inputs_in m).baselines ≤ most_sources
    → faults_of (inputs_in m)
    ≡ source_faults 0 0 (all_sources (inputs_in m))
    ++ (file_faults (file_or_none (inputs_in m).suppressions (inputs_in m).today) ++ after_file m)
after_sources m few_logs few_baselines =
    let inputs = inputs_in m in
    number_is_no_fault inputs.logs inputs.baselines few_logs few_baselines
    (source_faults 0 0 (all_sources inputs) ++ (file_faults (file_or_none inputs.suppressions inputs.today) ++ after_file m))

-- regions change no error of the sources
sources_alike : (m : Merging) → source_faults 0 0 (sources_of (checks_in m) (inputs_in m).logs (inputs_in m).baselines) ≡ source_faults 0 0 (all_sources (inputs_in m))
sources_alike m =
    let inputs = inputs_in m in
    let once = inputs.snippets || inputs.checks.once in
    faults_read once inputs.checks Log 0 inputs.logs (numbered inputs.checks Baseline 0 inputs.baselines) (numbered (reading_checks inputs) Baseline 0 inputs.baselines)
    (λ runs results. sym (ap (source_faults runs results) (append-nil (numbered inputs.checks Baseline 0 inputs.baselines)))
    ∙ faults_read once inputs.checks Baseline 0 inputs.baselines [] [] (λ _ _. refl) runs results
    ∙ ap (source_faults runs results) (append-nil (numbered (reading_checks inputs) Baseline 0 inputs.baselines)))
    0 0

pub sources_read : (m : Merging) (runs : Runs) → AreRunsOf (inputs_in m).checks (inputs_in m).logs (inputs_in m).baselines runs → IsRead m
unfolding IsRead
sources_read m runs read =
    let rest = file_faults (file_or_none (inputs_in m).suppressions (inputs_in m).today) ++ after_file m in
    after_sources m read.few_logs read.few_baselines ∙ ap (λ faults. faults ++ rest) (sym (sources_alike m) ∙ read.faultless)

pub rejected_sources : (m : Merging) (indexes : List (Result (List Token) IndexFault)) (fault : MergeFault) → AreIndexesIn m indexes
    → IsOutOfResources fault ⊎ (first (source_faults 0 0 (sources_of (checks_in m) (inputs_in m).logs (inputs_in m).baselines)) ≡ Some fault)
    → exit_status fault.cause ≡ 2 → IsRejection m fault
unfolding AreIndexesIn
rejected_sources m indexes fault are found quiet =
    rejected_by m (source_faults 0 0 (all_sources (inputs_in m)))
    (file_faults (file_or_none (inputs_in m).suppressions (inputs_in m).today) ++ after_file m) fault
    (after_sources m are.few_logs are.few_baselines)
    (subst (λ faults. IsOutOfResources fault ⊎ (first faults ≡ Some fault)) (sources_alike m) found) quiet

-- ---- read the suppression file

pub file_read : (m : Merging) (bytes : Option (List ℕ)) (file : File) → IsRead m → bytes ≡ (inputs_in m).suppressions
    → file_or_none bytes (inputs_in m).today ≡ Ok file → IsFileIn m file
unfolding IsRead IsFileIn
file_read m bytes file read is_bytes is_file =
    let is : file_or_none (inputs_in m).suppressions (inputs_in m).today ≡ Ok file =
    subst (λ b. file_or_none b (inputs_in m).today ≡ Ok file) is_bytes is_file in
    (is, read ∙ ap (λ r. file_faults r ++ after_file m) is)

pub rejected_file : (m : Merging) (bytes : Option (List ℕ)) (fault : MergeFault) → IsRead m → bytes ≡ (inputs_in m).suppressions
    → IsOutOfResources fault ⊎ (first (file_faults (file_or_none bytes (inputs_in m).today)) ≡ Some fault) → exit_status fault.cause ≡ 2 → IsRejection m fault
unfolding IsRead
rejected_file m bytes fault read is_bytes found quiet =
    rejected_by m (file_faults (file_or_none (inputs_in m).suppressions (inputs_in m).today)) (after_file m) fault read
    (subst (λ b. IsOutOfResources fault ⊎ (first (file_faults (file_or_none b (inputs_in m).today)) ≡ Some fault)) is_bytes found) quiet

-- ---- read the policy

some_mapped : {X Y : Type 0} (f : X → Y) (option : Option X) → is_some option ≡ is_some (option_map f option)
some_mapped f None = refl
some_mapped f (Some x) = refl

-- the policy that is read is that of the merge
same_policy : (m : Merging) (bytes : Option (List ℕ)) (has_diff : Bool) → bytes ≡ (inputs_in m).policy → has_diff ≡ is_some m.sources.now.diff
    → policy_read has_diff bytes ≡ policy_read_in m
same_policy m bytes has_diff is_bytes has =
    ap (policy_read has_diff) is_bytes
    ∙ ap (λ b. policy_read b (inputs_in m).policy) (has ∙ some_mapped (λ (v : Vec ℕ Global). v.items) m.sources.now.diff)

pub policy_is_in : (m : Merging) (file : File) (bytes : Option (List ℕ)) (has_diff : Bool) (conditions : Option (List GateCondition))
    → IsFileIn m file → bytes ≡ (inputs_in m).policy → has_diff ≡ is_some m.sources.now.diff
    → conditions ≡ conditions_or_none (policy_read has_diff bytes) → faults_of_policy (policy_read has_diff bytes) ≡ [] → IsPolicyIn m conditions
unfolding IsFileIn IsPolicyIn
policy_is_in m file bytes has_diff conditions read is_bytes has is none =
    let same = same_policy m bytes has_diff is_bytes has in
    let left : faults_of_policy (policy_read_in m) ≡ [] = ap faults_of_policy (sym same) ∙ none in
    (ap conditions_or_none (sym same) ∙ sym is, read.1 ∙ ap (λ faults. faults ++ after_policy m) left)

pub rejected_policy : (m : Merging) (file : File) (bytes : Option (List ℕ)) (has_diff : Bool) (fault : MergeFault)
    → IsFileIn m file → bytes ≡ (inputs_in m).policy → has_diff ≡ is_some m.sources.now.diff
    → IsOutOfResources fault ⊎ (first (faults_of_policy (policy_read has_diff bytes)) ≡ Some fault) → exit_status fault.cause ≡ 2 → IsRejection m fault
unfolding IsFileIn
rejected_policy m file bytes has_diff fault read is_bytes has found quiet =
    rejected_by m (faults_of_policy (policy_read_in m)) (after_policy m) fault read.1
    (subst (λ said. IsOutOfResources fault ⊎ (first (faults_of_policy said) ≡ Some fault)) (same_policy m bytes has_diff is_bytes has) found) quiet

-- ---- read the diff

pub change_is_in : (m : Merging) (conditions : Option (List GateCondition)) (bytes : Option (List ℕ)) (change : Option GatedChange) → IsPolicyIn m conditions
    → bytes ≡ (inputs_in m).diff
    → change ≡ change_or_none (change_read (checks_in m) bytes) → faults_of_change (change_read (checks_in m) bytes) ≡ [] → IsChangeIn m change
unfolding IsPolicyIn IsChangeIn
change_is_in m conditions bytes change read is_bytes is none =
    let same : change_read (checks_in m) bytes ≡ change_read_in m = ap (change_read (checks_in m)) is_bytes in
    let left : faults_of_change (change_read_in m) ≡ [] = ap faults_of_change (sym same) ∙ none in
    (ap change_or_none (sym same) ∙ sym is, read.1 ∙ ap (λ faults. faults ++ faults_of_runs (all_runs (inputs_in m))) left)

pub rejected_diff : (m : Merging) (conditions : Option (List GateCondition)) (bytes : Option (List ℕ)) (fault : MergeFault) → IsPolicyIn m conditions
    → bytes ≡ (inputs_in m).diff
    → IsOutOfResources fault ⊎ (first (faults_of_change (change_read (checks_in m) bytes)) ≡ Some fault) → exit_status fault.cause ≡ 2 → IsRejection m fault
unfolding IsPolicyIn
rejected_diff m conditions bytes fault read is_bytes found quiet =
    rejected_by m (faults_of_change (change_read_in m)) (faults_of_runs (all_runs (inputs_in m))) fault read.1
    (subst (λ b. IsOutOfResources fault ⊎ (first (faults_of_change (change_read (checks_in m) b)) ≡ Some fault)) is_bytes found) quiet

-- the change is the one that the definitions read
same_conditions : (m : Merging) (conditions : Option (List GateCondition)) → IsPolicyIn m conditions → conditions ≡ conditions_given (inputs_in m)
unfolding IsPolicyIn
same_conditions m conditions read = sym read.0

same_change : (m : Merging) (change : Option GatedChange) → IsChangeIn m change → change ≡ change_given (inputs_in m)
unfolding IsChangeIn
same_change m change read = sym read.0

-- ---- read snippets

-- runs with regions and snippets, if a filter or an entry compares snippets
ready_side : (wanted : Bool) (before after : List Placed) (old new : List OpenedRun) → AreOpened before old
    → map placed_of new ≡ with_regions_if wanted (map placed_of old) → with_regions_if wanted before ≡ after → AreOpened after new
ready_side wanted before after old new opened made are =
    let long : length new ≡ length old =
    sym (length-map new placed_of) ∙ ap length made ∙ length_read wanted (map placed_of old) ∙ length-map old placed_of in
    record {
      are = made ∙ ap (with_regions_if wanted) opened.are ∙ are;
      few = omega (arith, long, opened.few);
      few_results = subst (λ ds. results_total ds ≤ most_results) (sym (ap run_values made ∙ values_read wanted (map placed_of old))) opened.few_results;
    }

-- whether a filter of the policy or an entry of the file compares snippets
snippets_in : (m : Merging) (conditions : Option (List GateCondition)) (file : File) → IsPolicyIn m conditions → IsFileIn m file
    → compare_snippets conditions file ≡ (inputs_in m).snippets
unfolding IsFileIn IsPolicyIn
snippets_in m conditions file looked read =
    ap (λ r. compare_snippets conditions (file_in r)) (sym read.0)
    ∙ ap (λ c. compare_snippets c (file_in (file_or_none (inputs_in m).suppressions (inputs_in m).today))) (sym looked.0)

pub logs_ready : (m : Merging) (conditions : Option (List GateCondition)) (file : File) (old new : List OpenedRun) → AreLogsOpened m old
    → IsPolicyIn m conditions → IsFileIn m file
    → map placed_of new ≡ with_regions_if (compare_snippets conditions file) (map placed_of old) → AreLogsReady m new
unfolding AreLogsOpened AreLogsReady
logs_ready m conditions file old new opened looked read made =
    let inputs = inputs_in m in
    ready_side inputs.snippets (placed (numbered inputs.checks Log 0 inputs.logs)) (input_runs inputs) old new opened
    (made ∙ ap (λ b. with_regions_if b (map placed_of old)) (snippets_in m conditions file looked read)) (regions_read inputs.snippets inputs.checks Log 0 inputs.logs)

pub baselines_ready : (m : Merging) (conditions : Option (List GateCondition)) (file : File) (old new : List OpenedRun) → AreBaselinesOpened m old
    → IsPolicyIn m conditions → IsFileIn m file
    → map placed_of new ≡ with_regions_if (compare_snippets conditions file) (map placed_of old) → AreBaselinesReady m new
unfolding AreBaselinesOpened AreBaselinesReady
baselines_ready m conditions file old new opened looked read made =
    let inputs = inputs_in m in
    ready_side inputs.snippets (placed (numbered inputs.checks Baseline 0 inputs.baselines)) (baseline_runs inputs) old new opened
    (made ∙ ap (λ b. with_regions_if b (map placed_of old)) (snippets_in m conditions file looked read)) (regions_read inputs.snippets inputs.checks Baseline 0 inputs.baselines)

-- ---- judge

pub are_opened_logs : (m : Merging) (runs : List OpenedRun) → AreLogsReady m runs → AreOpened (input_runs (inputs_in m)) runs
unfolding AreLogsReady
are_opened_logs m runs opened = opened

pub are_opened_baselines : (m : Merging) (runs : List OpenedRun) → AreBaselinesReady m runs → AreOpened (baseline_runs (inputs_in m)) runs
unfolding AreBaselinesReady
are_opened_baselines m runs opened = opened

-- the suppression file is the one that the definitions read
same_file : (m : Merging) (file : File) → IsFileIn m file → file ≡ file_given (inputs_in m)
unfolding IsFileIn
same_file m file read = sym (ap file_in read.0)

few_placed : (runs : List OpenedRun) (judged : List Placed) → judged ≡ map placed_of runs → length runs ≤ most_runs → length judged ≤ most_runs
few_placed runs judged same few = let long : length judged ≡ length runs = ap length same ∙ length-map runs placed_of in omega (arith, long, few)

-- the runs of the logs (false) or of the baselines (true), judged
judged_side : (m : Merging) (baseline : Bool) (wanted : List Placed) (runs : List OpenedRun) (file : File) (judged : Judged)
    → AllByRecursion (λ p. skips p.source ≡ baseline) wanted → AllByRecursion IsRun (run_values wanted)
    → AreOpened wanted runs → IsFileIn m file → placed_in judged ≡ map placed_of runs
    → judged.outcomes.items ≡ all_outcomes file (placed_in judged) → faults_of_runs (map placed_of runs) ≡ []
    → (placed_in judged ≡ wanted) × IsJudged (file_given (inputs_in m)) baseline judged
judged_side m baseline wanted runs file judged sides objects opened read same outcomes none =
    let are : placed_in judged ≡ wanted = same ∙ opened.are in
    let made : IsJudged file baseline judged = record {
      outcomes = outcomes;
      faultless = ap faults_of_runs same ∙ none;
      sources = subst (AllByRecursion (λ (p : Placed). skips p.source ≡ baseline)) (sym are) sides;
      objects = subst (λ ps. AllByRecursion IsRun (run_values ps)) (sym are) objects;
      few_runs = few_placed runs (placed_in judged) same opened.few;
      few_results = subst (λ ps. results_total (run_values ps) ≤ most_results) (sym same) opened.few_results;
    } in
    (are, subst (λ f. IsJudged f baseline judged) (same_file m file read) made)

pub logs_judged : (m : Merging) (runs : List OpenedRun) (file : File) (judged : Judged) → AreLogsReady m runs → IsFileIn m file
    → placed_in judged ≡ map placed_of runs
    → judged.outcomes.items ≡ all_outcomes file (placed_in judged) → faults_of_runs (map placed_of runs) ≡ [] → AreLogsJudged m judged
unfolding AreLogsReady AreLogsJudged
logs_judged m runs file judged opened read same outcomes none =
    let checks = reading_checks (inputs_in m) in
    let logs = (inputs_in m).logs in
    judged_side m false (input_runs (inputs_in m)) runs file judged (log_sides checks 0 logs) (objects_in (numbered checks Log 0 logs))
    opened read same outcomes none

pub logs_sound : (m : Merging) (runs : List OpenedRun) → AreLogsReady m runs → faults_of_runs (map placed_of runs) ≡ [] → AreLogsSound m
unfolding AreLogsReady AreLogsSound
logs_sound m runs opened none = ap faults_of_runs (sym opened.are) ∙ none

pub rejected_logs : (m : Merging) (runs : List OpenedRun) (change : Option GatedChange) (fault : MergeFault) → AreLogsReady m runs → IsChangeIn m change
    → IsOutOfResources fault ⊎ (first (faults_of_runs (map placed_of runs)) ≡ Some fault) → exit_status fault.cause ≡ 2 → IsRejection m fault
unfolding AreLogsReady IsChangeIn
rejected_logs m runs change fault opened read found quiet =
    rejected_by m (faults_of_runs (input_runs (inputs_in m))) (faults_of_runs (baseline_runs (inputs_in m))) fault
    (read.1 ∙ faults_apart (input_runs (inputs_in m)) (baseline_runs (inputs_in m)))
    (subst (λ ps. IsOutOfResources fault ⊎ (first (faults_of_runs ps) ≡ Some fault)) opened.are found) quiet

pub baselines_judged : (m : Merging) (runs : List OpenedRun) (file : File) (judged : Judged) → AreBaselinesReady m runs → IsFileIn m file
    → placed_in judged ≡ map placed_of runs
    → judged.outcomes.items ≡ all_outcomes file (placed_in judged) → faults_of_runs (map placed_of runs) ≡ [] → AreBaselinesJudged m judged
unfolding AreBaselinesReady AreBaselinesJudged
baselines_judged m runs file judged opened read same outcomes none =
    let checks = reading_checks (inputs_in m) in
    let baselines = (inputs_in m).baselines in
    judged_side m true (baseline_runs (inputs_in m)) runs file judged (baseline_sides checks 0 baselines) (objects_in (numbered checks Baseline 0 baselines))
    opened read same outcomes none

pub rejected_baselines : (m : Merging) (runs : List OpenedRun) (change : Option GatedChange) (fault : MergeFault) → AreBaselinesReady m runs → IsChangeIn m change → AreLogsSound m
    → IsOutOfResources fault ⊎ (first (faults_of_runs (map placed_of runs)) ≡ Some fault) → exit_status fault.cause ≡ 2 → IsRejection m fault
unfolding AreBaselinesReady AreLogsSound IsChangeIn
rejected_baselines m runs change fault opened read sound found quiet =
    rejected_by m (faults_of_runs (baseline_runs (inputs_in m))) [] fault
    (read.1 ∙ left_after_first (input_runs (inputs_in m)) (baseline_runs (inputs_in m)) sound ∙ sym (append-nil _))
    (subst (λ ps. IsOutOfResources fault ⊎ (first (faults_of_runs ps) ≡ Some fault)) opened.are found) quiet

-- ---- prepare

pub file_was_given : (m : Merging) (bytes : Option (List ℕ)) (file : File) → IsFileIn m file → bytes ≡ (inputs_in m).suppressions → IsFileOf bytes file
unfolding IsFileIn
file_was_given m bytes file read is = subst (λ b. IsFileOf b file) (sym is) (file_was_read (inputs_in m).suppressions (inputs_in m).today file read.0)

pub judged_first : (m : Merging) (file : File) (judged : Judged) → IsFileIn m file → AreLogsJudged m judged → IsJudged file false judged
unfolding AreLogsJudged
judged_first m file judged read logs = subst (λ f. IsJudged f false judged) (sym (same_file m file read)) logs.1

pub judged_second : (m : Merging) (file : File) (judged : Judged) → IsFileIn m file → AreBaselinesJudged m judged → IsJudged file true judged
unfolding AreBaselinesJudged
judged_second m file judged read baselines = subst (λ f. IsJudged f true judged) (sym (same_file m file read)) baselines.1

-- no input has an error
none_left : (m : Merging) (change : Option GatedChange) (now before : Judged) → IsChangeIn m change → AreLogsJudged m now → AreBaselinesJudged m before
    → faults_of (inputs_in m) ≡ []
unfolding IsChangeIn AreLogsJudged AreBaselinesJudged
none_left m change now before read logs baselines =
    read.1 ∙ left_after_first (input_runs (inputs_in m)) (baseline_runs (inputs_in m)) (ap faults_of_runs (sym logs.0) ∙ logs.1.faultless)
    ∙ ap faults_of_runs (sym baselines.0) ∙ baselines.1.faultless

pub is_ready : (m : Merging) (bytes : Option (List ℕ)) (file : File) (conditions : Option (List GateCondition)) (change : Option GatedChange)
    (now before : Judged) (prepared : Prepared) → IsFileIn m file
    → IsPolicyIn m conditions → IsChangeIn m change → AreLogsJudged m now → AreBaselinesJudged m before
    → bytes ≡ (inputs_in m).suppressions
    → IsPreparedBy (checks_in m) file (placed_in now) (placed_in before) change (policy_in m) conditions (reporting_in m.asked.now) prepared
    → prepared.expired ≡ expired_of file (limited_records file (placed_in now))
    → IsKept (merge_by conditions (checks_in m) file bytes change (policy_in m) (choice_in m.asked.now) (placed_in now) (placed_in before)) (upkeep_in m.asked.now) prepared.life
    → IsReady m prepared
unfolding IsReady AreLogsJudged AreBaselinesJudged
is_ready m bytes file conditions change now before prepared read asked_for looked logs baselines is ready past kept =
    let inputs = inputs_in m in
    let asked = reporting_in m.asked.now in
    let choice = choice_in m.asked.now in
    let upkeep = upkeep_in m.asked.now in
    let xs = input_runs inputs in
    let ys = baseline_runs inputs in record {
      faultless = none_left m change now before looked logs baselines;
      written =
          subst (λ f. IsPreparedBy (checks_in m) f xs ys (change_given inputs) (policy_in m) (conditions_given inputs) asked prepared)
          (same_file m file read)
          (subst (λ c. IsPreparedBy (checks_in m) file xs ys c (policy_in m) (conditions_given inputs) asked prepared) (same_change m change looked)
          (subst (λ cs. IsPreparedBy (checks_in m) file xs ys change (policy_in m) cs asked prepared) (same_conditions m conditions asked_for)
          (same_runs (checks_in m) file (placed_in now) (placed_in before) xs ys change (policy_in m) conditions asked prepared ready logs.0 baselines.0)));
      expired = past ∙ ap (λ runs. expired_of file (limited_records file runs)) logs.0
          ∙ ap (λ f. expired_of f (limited_records f xs)) (same_file m file read);
      kept =
          let given = conditions_given inputs in
          subst (λ f. IsKept (merge_by given (checks_in m) f inputs.suppressions (change_given inputs) (policy_in m) choice xs ys) upkeep prepared.life)
          (same_file m file read)
          (subst (λ c. IsKept (merge_by given (checks_in m) file inputs.suppressions c (policy_in m) choice xs ys) upkeep prepared.life)
          (same_change m change looked)
          (subst (λ cs. IsKept (merge_by cs (checks_in m) file inputs.suppressions change (policy_in m) choice xs ys) upkeep prepared.life)
          (same_conditions m conditions asked_for)
          (subst (λ b. IsKept (merge_by conditions (checks_in m) file b change (policy_in m) choice xs ys) upkeep prepared.life) is
          (same_kept conditions (checks_in m) file bytes change (policy_in m) choice (placed_in now) (placed_in before) xs ys upkeep prepared.life kept logs.0
          baselines.0))));
    }

pub rejected_life : (m : Merging) (bytes : Option (List ℕ)) (file : File) (conditions : Option (List GateCondition)) (change : Option GatedChange)
    (now before : Judged) (fault : MergeFault) → IsFileIn m file
    → IsPolicyIn m conditions → IsChangeIn m change → AreLogsJudged m now → AreBaselinesJudged m before
    → bytes ≡ (inputs_in m).suppressions
    → IsUnkept (merge_by conditions (checks_in m) file bytes change (policy_in m) (choice_in m.asked.now) (placed_in now) (placed_in before)) (upkeep_in m.asked.now) fault
    → IsRejection m fault
unfolding IsRejection AreLogsJudged AreBaselinesJudged
rejected_life m bytes file conditions change now before fault read asked_for looked logs baselines is unkept =
    let inputs = inputs_in m in
    let given = conditions_given inputs in
    let choice = choice_in m.asked.now in
    let upkeep = upkeep_in m.asked.now in
    let xs = input_runs inputs in
    let ys = baseline_runs inputs in (
      elim unkept [
        | inl out ↦ inl (inl (inl out))
        | inr found ↦ inr (
          none_left m change now before looked logs baselines,
          subst (λ f. first (life_faults (merge_by given (checks_in m) f inputs.suppressions (change_given inputs) (policy_in m) choice xs ys) upkeep) ≡ Some fault)
              (same_file m file read)
              (subst (λ c. first (life_faults (merge_by given (checks_in m) file inputs.suppressions c (policy_in m) choice xs ys) upkeep) ≡ Some fault)
              (same_change m change looked)
              (subst (λ cs. first (life_faults (merge_by cs (checks_in m) file inputs.suppressions change (policy_in m) choice xs ys) upkeep) ≡ Some fault)
              (same_conditions m conditions asked_for)
              (subst (λ b. first (life_faults (merge_by conditions (checks_in m) file b change (policy_in m) choice xs ys) upkeep) ≡ Some fault) is
              (same_large conditions (checks_in m) file bytes change (policy_in m) choice (placed_in now) (placed_in before) xs ys upkeep fault found logs.0
              baselines.0)))),
        )
      ],
      unkept_quiet (merge_by conditions (checks_in m) file bytes change (policy_in m) choice (placed_in now) (placed_in before)) upkeep fault unkept,
    )

-- ---- assemble

pub is_merge_of : (m : Merging) (prepared : Prepared) (merged : Merged) → IsReady m prepared
    → ((runs counted : List Data) (places : Option (List CopyPlace)) (change : Option GatedChange) (ruling : Option PolicyFacts)
    (bare idle : ℕ) (told : List Finding)
    → IsPreparedAs runs counted places change (policy_in m) ruling bare idle told prepared
    → IsMergedAs runs counted places change (policy_in m) ruling bare idle told merged)
    → merged.expired ≡ prepared.expired → merged.life ≡ prepared.life → IsMergeOf m merged
unfolding IsReady IsMergeOf
is_merge_of m prepared merged ready assembled past same = (
  assembled_is (inputs_in m) (policy_in m) (reporting_in m.asked.now) (choice_in m.asked.now) (upkeep_in m.asked.now) prepared merged ready assembled past,
  subst (IsLifeOf (inputs_in m) (policy_in m) (choice_in m.asked.now) (upkeep_in m.asked.now)) (sym same) ready.kept,
)

-- ---- the merge

pub merge_is : (m : Merging) (merged : Merged) → IsMergeOf m merged → IsMerged (inputs_in m) (policy_in m) (reporting_in m.asked.now) merged
unfolding IsMergeOf
merge_is m merged is = is.0

pub life_is : (m : Merging) (merged : Merged) → IsMergeOf m merged → IsLifeOf (inputs_in m) (policy_in m) (choice_in m.asked.now) (upkeep_in m.asked.now) merged.life
unfolding IsMergeOf
life_is m merged is = is.1

pub refusal_is : (m : Merging) (fault : MergeFault) → IsRejection m fault → IsRefusal (inputs_in m) (policy_in m) (choice_in m.asked.now) (upkeep_in m.asked.now) fault
unfolding IsRejection
refusal_is m fault is = is.0

pub refusal_exits : (m : Merging) (fault : MergeFault) → IsRejection m fault → exit_status fault.cause ≡ 2
unfolding IsRejection
refusal_exits m fault is = is.1
