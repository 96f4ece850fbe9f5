-- Each written result is the input's result at its position, with its own record and its own state.
use Rattle.std.proofs.Common.{◌≡◌, ℕ, zero, suc, ◌+◌, ◌<◌, ◌≤◌, ◌++◌, Bool, true, false, ◌&&◌, if◌then◌else◌, List, [], ◌∷◌, map, take, drop, length, get_or, Option, Some, None, Result, Ok, Err, option_and_then, codes, arith, refl, sym, ap, subst, ◌∙◌}
use Rattle.std.proofs.lemmas.List.{drop-drop, get_or-append-add, get_or-drop, get_or-take, get_or_append_left, length-drop, length-map, length-take-le}
use Rattle.std.proofs.lemmas.List.Concat.{flat_map-append}
use Rattle.std.specs.List.{AllByRecursion, range_with_len}
use Rattle.std.specs.Prelude.{is_some}
use Rattle.serde_json.specs.Data.{Data, null, boolean, number, string, array, object, Items, Members}
use Rattle.serde_json.specs.Find.{as_array, get_member}
use Rattle.serde_json.specs.View.{items_of as items_as_data}
use Rattle.serde_json.proofs.Views.{get_member-put}
use Rattle.sarif_model.specs.declared.fault.Fault.{Fault}
use Rattle.sarif_model.specs.declared.kinds.State.{State}
use Rattle.sarif_model.specs.declared.record.Record.{Record}
use Rattle.sarif_model.specs.Members.{elements}
use Rattle.sarif_model.specs.Run.{elements_or_none, is_absent_result, result_at, results_of, results_total}
use Rattle.sarif_runs.specs.Record.{record_of}
use Rattle.sarif_evidence.specs.declared.version.MatchingVersion.{MatchingVersion}
use Rattle.sarif_match.specs.Partners.{partners_in}
use Rattle.sarif_evidence.specs.Evidence.{state_in}
use Rattle.sarif_model.specs.declared.merge_fault.At.{At}
use Rattle.sarif_model.specs.declared.merge_fault.At.TheVariants.{Single}
use Rattle.sarif_model.specs.declared.merge_fault.Source.TheVariants.{Log, Baseline}
use Rattle.sarif_model.proofs.Elements.{items_back}
use Rattle.sarif_runs.specs.declared.item.Item.{Item}
use Rattle.sarif_runs.specs.declared.item.Item.TheVariants.{Skipped}
use Rattle.sarif_runs.specs.Judging.{faults_of_runs, first_bad, item_by, item_of, items_of, opening_fault, records_in, records_of, run_faults, skips, with_record, run_values}
use Rattle.sarif_runs.specs.declared.run_options.RecordOptions.{RecordOptions}
use Rattle.sarif_runs.specs.Placed.{AreReadWith, Placed}
use Rattle.sarif_results.specs.Drafts.{Listing}
use Rattle.sarif_suppress.specs.Limited.{with_admitted}
use Rattle.sarif_log.specs.MergedRuns.{annotated_items, bare, merged_run, merged_runs, own_results, with_results, written, written_all}
use Rattle.json_parts.specs.Without.{without}
use Rattle.sarif_log.proofs.RunResults.{still_out, taken_out}
use Rattle.sarif_log.specs.LogBy.{listing_of, partner_in, states_from, states_of}
use Rattle.sarif_results.proofs.JudgedCounts.{no_fault, no_faults_here, no_faults_left, records_of_log, records_of_logs}
use Rattle.sarif_log.proofs.Limits.{limited_at_place, limited_long}
use Rattle.sarif_log.proofs.Sides.{states_long}
use Rattle.sarif_inputs.specs.ChangeIn.{change_read, faults_of_change}
use Rattle.sarif_inputs.specs.PolicyIn.{faults_of_policy, policy_read}
use Rattle.sarif_inputs.specs.Faults.{faults_of, file_faults, number_faults}
use Rattle.sarif_entries.specs.Given.{file_or_none}
use Rattle.sarif_inputs.specs.Inputs.{Inputs, all_runs, all_sources, baseline_runs, input_runs, reading_checks, record_options}
use Rattle.sarif_inputs.specs.SourceFaults.{source_faults}
use Rattle.sarif_inputs.proofs.ReadFacts.{log_sides, read_alike}
use Rattle.sarif_merge.specs.MergedLog.{current_of, file_given, limited_of, written_inputs}
use Rattle.sarif_merge.specs.OwnResult.{IsResult, baseline_of, partner_at, number_among_all, run_at, admitted_at, written_by, written_run}

-- ---- runs and results by their places

module _ (listed : Listing) where
  -- a written run uses exactly the records and states of the results in it
  merged_at : (rs : List Record) (ss : List State) (runs : List Data) (k : ℕ) → k < length runs
      → get_or (merged_runs listed rs ss runs) k null
      ≡ merged_run listed (take (length (results_of (get_or runs k null))) (drop (results_total (take k runs)) rs))
      (take (length (results_of (get_or runs k null))) (drop (results_total (take k runs)) ss)) (get_or runs k null)
  merged_at rs ss [] k within = absurd (omega (arith, within))
  merged_at rs ss (run ∷ runs) zero within = refl
  merged_at rs ss (run ∷ runs) (suc k) within =
      let n = length (results_of run) in
      let b = results_total (take k runs) in
      let own = get_or runs k null in
      let c = length (results_of own) in
      merged_at (drop n rs) (drop n ss) runs k (omega (arith, within))
      ∙ ap (λ qs. merged_run listed (take c qs) (take c (drop b (drop n ss))) own) (drop-drop b n rs)
      ∙ ap (λ qs. merged_run listed (take c (drop (n + b) rs)) (take c qs) own) (drop-drop b n ss)

  -- as many runs are written as are read
  runs_written : (rs : List Record) (ss : List State) (runs : List Data) → length (merged_runs listed rs ss runs) ≡ length runs
  runs_written rs ss [] = refl
  runs_written rs ss (run ∷ runs) =
      ap suc (runs_written (drop (length (results_of run)) rs) (drop (length (results_of run)) ss) runs)

  nothing_written : (rs : List Record) (ss : List State) → written_all listed rs ss [] ≡ []
  nothing_written [] ss = refl
  nothing_written (r ∷ rs) [] = refl
  nothing_written (r ∷ rs) (s ∷ ss) = refl

  found_results : (rs : List Record) (ss : List State) (found : Option Items) (ms : Members) → get_member (codes "results") ms ≡ None
      → results_of (object (with_results (annotated_items listed rs ss found) ms)) ≡ written_all listed rs ss (elements_or_none found)
  found_results rs ss None ms none =
      ap (λ found. elements_or_none (option_and_then as_array found)) none ∙ sym (nothing_written rs ss)
  found_results rs ss (Some ds) ms none =
      ap (λ found. elements_or_none (option_and_then as_array found))
      (get_member-put (codes "results") (array (items_as_data (written_all listed rs ss (elements ds)))) ms)
      ∙ items_back (written_all listed rs ss (elements ds))

  -- a run is written with its results
  merged_results : (rs : List Record) (ss : List State) (run : Data) → results_of (merged_run listed rs ss run) ≡ written_all listed rs ss (results_of run)
  merged_results rs ss null = sym (nothing_written rs ss)
  merged_results rs ss (boolean b) = sym (nothing_written rs ss)
  merged_results rs ss (number n) = sym (nothing_written rs ss)
  merged_results rs ss (string s) = sym (nothing_written rs ss)
  merged_results rs ss (array ds) = sym (nothing_written rs ss)
  merged_results rs ss (object ms) =
      found_results rs ss (own_results ms) (bare ms)
      (still_out (codes "results") (codes "baselineGuid") (without (codes "results") ms) (taken_out (codes "results") ms))

  -- as many results are written as are read
  results_written : (rs : List Record) (ss : List State) (ds : List Data) → length (written_all listed rs ss ds) ≡ length ds
  results_written [] ss ds = refl
  results_written (r ∷ rs) [] ds = refl
  results_written (r ∷ rs) (s ∷ ss) [] = refl
  results_written (r ∷ rs) (s ∷ ss) (d ∷ ds) = ap suc (results_written rs ss ds)

  -- a result is written with the record and the state at its position
  written_at : (rs : List Record) (ss : List State) (ds : List Data) (i : ℕ) (r : Record) (s : State)
      → i < length rs → i < length ss → i < length ds
      → get_or (written_all listed rs ss ds) i null ≡ written listed (get_or rs i r) (get_or ss i s) (get_or ds i null)
  written_at [] ss ds i r s in_rs in_ss in_ds = absurd (omega (arith, in_rs))
  written_at (q ∷ rs) [] ds i r s in_rs in_ss in_ds = absurd (omega (arith, in_ss))
  written_at (q ∷ rs) (t ∷ ss) [] i r s in_rs in_ss in_ds = absurd (omega (arith, in_ds))
  written_at (q ∷ rs) (t ∷ ss) (d ∷ ds) zero r s in_rs in_ss in_ds = refl
  written_at (q ∷ rs) (t ∷ ss) (d ∷ ds) (suc i) r s in_rs in_ss in_ds =
      written_at rs ss ds i r s (omega (arith, in_rs)) (omega (arith, in_ss)) (omega (arith, in_ds))

-- ---- the record of a result

first_one : (skipped : Bool) (found : Result Record Fault) (at : ℕ → At) (n : ℕ) (items : List Item) → skipped ≡ false
    → first_bad at n ((if skipped then Skipped else item_by found) ∷ items) ≡ []
    → (r : Record) × (found ≡ Ok r) × ((d : Record) → get_or (with_record (if skipped then Skipped else item_by found) (records_in items)) 0 d ≡ r)
first_one true found at n items kept sound = cc
first_one false (Ok r) at n items kept sound = (r, refl, λ d. refl)
first_one false (Err fault) at n items kept sound = cc

after_one : (skipped : Bool) (found : Result Record Fault) (at : ℕ → At) (n : ℕ) (items : List Item) → skipped ≡ false
    → first_bad at n ((if skipped then Skipped else item_by found) ∷ items) ≡ []
    → (first_bad at (n + 1) items ≡ [])
    × ((i : ℕ) (d : Record) → get_or (with_record (if skipped then Skipped else item_by found) (records_in items)) (suc i) d ≡ get_or (records_in items) i d)
after_one true found at n items kept sound = cc
after_one false (Ok r) at n items kept sound = (sound, λ i d. refl)
after_one false (Err fault) at n items kept sound = cc

not_skipped : (p : Placed) (a : ℕ) → skips p.source ≡ false → (skips p.source && is_absent_result (result_at p.run a)) ≡ false
not_skipped p a log = ap (λ skip. skip && is_absent_result (result_at p.run a)) log

-- among those from result a on
record_from : (p : Placed) (at : ℕ → At) (n a m i j : ℕ) → skips p.source ≡ false → i < m → a + i ≡ j
    → first_bad at n (map (item_of p) (range_with_len a m)) ≡ []
    → (r : Record) × (record_of p.options.records p.run j ≡ Ok r) × ((d : Record) → get_or (records_in (map (item_of p) (range_with_len a m))) i d ≡ r)
record_from p at n a zero i j log within is sound = absurd (omega (arith, within))
record_from p at n a (suc m) zero j log within is sound =
    let here : a ≡ j = omega (arith, is) in
    subst (λ k. (r : Record) × (record_of p.options.records p.run k ≡ Ok r)
    × ((d : Record) → get_or (records_in (map (item_of p) (range_with_len a (suc m)))) 0 d ≡ r)) here
    (first_one (skips p.source && is_absent_result (result_at p.run a)) (record_of p.options.records p.run a) at n
    (map (item_of p) (range_with_len (a + 1) m)) (not_skipped p a log) sound)
record_from p at n a (suc m) (suc i) j log within is sound =
    let rest =
    after_one (skips p.source && is_absent_result (result_at p.run a)) (record_of p.options.records p.run a) at n
    (map (item_of p) (range_with_len (a + 1) m)) (not_skipped p a log) sound in
    let later = record_from p at (n + 1) (a + 1) m i j log (omega (arith, within)) (omega (arith, is)) rest.0 in
    (later.0, later.1, λ d. rest.1 i d ∙ later.2 d)

-- in its run
record_in_run : (p : Placed) (seq : ℕ) → skips p.source ≡ false → run_faults p ≡ [] → seq < length (results_of p.run)
    → (r : Record) × (record_of p.options.records p.run seq ≡ Ok r) × ((d : Record) → get_or (records_in (items_of p)) seq d ≡ r)
record_in_run p seq log sound within =
    record_from p (Single p.source p.number) 0 0 (length (results_of p.run)) seq seq log within (omega arith)
    (no_fault p.source p.number (opening_fault p) (items_of p) sound)

-- among the records of all runs
pub record_at : (options : RecordOptions) (ps : List Placed) (k seq : ℕ) → faults_of_runs ps ≡ [] → AllByRecursion (λ p. skips p.source ≡ false) ps
    → AreReadWith options ps
    → k < length ps → seq < length (results_of (get_or (run_values ps) k null))
    → (r : Record) × (record_of options (get_or (run_values ps) k null) seq ≡ Ok r)
    × ((d : Record) → get_or (records_of ps) (results_total (take k (run_values ps)) + seq) d ≡ r)
record_at options [] k seq sound logs alike there within = absurd (omega (arith, there))
record_at options (p ∷ ps) zero seq sound logs alike there within =
    let none = no_faults_here (run_faults p) (faults_of_runs ps) sound in
    let own = record_in_run p seq logs.0 none within in
    let inside : seq < length (records_in (items_of p)) = omega (arith, within, records_of_log p logs.0 none) in
    let place : 0 + seq ≡ seq = omega arith in (
      own.0,
      subst (λ o. record_of o p.run seq ≡ Ok own.0) alike.0 own.1,
      λ d. ap (λ i. get_or (records_in (items_of p) ++ records_of ps) i d) place
          ∙ get_or_append_left (records_in (items_of p)) (records_of ps) d seq inside ∙ own.2 d,
    )
record_at options (p ∷ ps) (suc k) seq sound logs alike there within =
    let none = no_faults_here (run_faults p) (faults_of_runs ps) sound in
    let before = results_total (take k (run_values ps)) in
    let own = record_at options ps k seq (no_faults_left (run_faults p) (faults_of_runs ps) sound) logs.1 alike.1 (omega (arith, there)) within in
    let many = records_of_log p logs.0 none in
    let place : (length (results_of p.run) + before) + seq ≡ length (records_in (items_of p)) + (before + seq) = omega (arith, many) in (
      own.0,
      own.1,
      λ d. ap (λ i. get_or (records_in (items_of p) ++ records_of ps) i d) place
          ∙ get_or-append-add (records_in (items_of p)) (records_of ps) (before + seq) d ∙ own.2 d,
    )

-- ---- the state of a result

pub state_at : (v : MatchingVersion) (bs : List Record) (partners : List (Option ℕ)) (n i j : ℕ) (cs : List Record) (r : Record) (s : State) → i < length cs → n + i ≡ j
    → get_or (states_from v bs partners n cs) i s ≡ state_in v (get_or cs i r) (partner_in bs (get_or partners j None))
state_at v bs partners n i j [] r s within is = absurd (omega (arith, within))
state_at v bs partners n zero j (c ∷ cs) r s within is =
    let here : n ≡ j = omega (arith, is) in
    ap (λ k. state_in v c (partner_in bs (get_or partners k None))) here
state_at v bs partners n (suc i) j (c ∷ cs) r s within is =
    state_at v bs partners (n + 1) i j cs r s (omega (arith, within)) (omega (arith, is))

-- ---- a part of a list

-- the results of a run are within those of all
pub within_total : (runs : List Data) (k : ℕ) → k < length runs → results_total (take k runs) + length (results_of (get_or runs k null)) ≤ results_total runs
within_total [] k there = absurd (omega (arith, there))
within_total (run ∷ runs) zero there = omega arith
within_total (run ∷ runs) (suc k) there =
    let rest = within_total runs k (omega (arith, there)) in
    omega (arith, rest)

part_long : {X : Type 0} (xs : List X) (b c : ℕ) → b + c ≤ length xs → length (take c (drop b xs)) ≡ c
part_long xs b c fits = length-take-le c (drop b xs) (omega (arith, fits, length-drop b xs))

part_at : {X : Type 0} (xs : List X) (b c i : ℕ) (d : X) → i < c → get_or (take c (drop b xs)) i d ≡ get_or xs (b + i) d
part_at xs b c i d within = get_or-take c (drop b xs) i d within ∙ get_or-drop b xs i d

-- ---- for all input runs

-- faultless inputs have faultless input runs
pub faultless_runs : (inputs : Inputs) → faults_of inputs ≡ [] → faults_of_runs (input_runs inputs) ≡ []
faultless_runs inputs none =
    let runs = faults_of_runs (all_runs inputs) in
    let files = file_faults (file_or_none inputs.suppressions inputs.today) in
    let sources = source_faults 0 0 (all_sources inputs) in
    let policy = faults_of_policy (policy_read (is_some inputs.diff) inputs.policy) in
    let change = faults_of_change (change_read inputs.checks inputs.diff) in
    let after_logs = no_faults_left (number_faults Log inputs.logs) (number_faults Baseline inputs.baselines ++ (sources ++ (files ++ (policy ++ (change ++ runs))))) none in
    let after_baselines = no_faults_left (number_faults Baseline inputs.baselines) (sources ++ (files ++ (policy ++ (change ++ runs)))) after_logs in
    let after_sources = no_faults_left sources (files ++ (policy ++ (change ++ runs))) after_baselines in
    let after_files = no_faults_left files (policy ++ (change ++ runs)) after_sources in
    let after_policy = no_faults_left policy (change ++ runs) after_files in
    let of_runs = no_faults_left change runs after_policy in
    no_faults_here (faults_of_runs (input_runs inputs)) (faults_of_runs (baseline_runs inputs))
    (sym (flat_map-append run_faults (input_runs inputs) (baseline_runs inputs)) ∙ of_runs)

pub runs_same : (inputs : Inputs) → length (written_inputs inputs) ≡ length (input_runs inputs)
runs_same inputs =
    let now = input_runs inputs in
    runs_written (listing_of (file_given inputs)) (limited_of inputs) (states_of inputs.checks.matching (current_of inputs) (baseline_of inputs)) (run_values now)
    ∙ length-map now (λ p. p.run)

pub results_same : (inputs : Inputs) (k : ℕ) → k < length (input_runs inputs)
    → length (results_of (written_run inputs k)) ≡ length (results_of (run_at inputs k))
results_same inputs k there =
    let now = input_runs inputs in
    let runs = run_values now in
    let qs = limited_of inputs in
    let ss = states_of inputs.checks.matching (current_of inputs) (baseline_of inputs) in
    let listed = listing_of (file_given inputs) in
    let run = run_at inputs k in
    let own_records = take (length (results_of run)) (drop (results_total (take k runs)) qs) in
    let own_states = take (length (results_of run)) (drop (results_total (take k runs)) ss) in
    ap (λ d. length (results_of d)) (merged_at listed qs ss runs k (omega (arith, there, length-map now (λ p. p.run))))
    ∙ ap length (merged_results listed own_records own_states run)
    ∙ results_written listed own_records own_states (results_of run)

pub own_result : (inputs : Inputs) (k seq : ℕ) → faults_of inputs ≡ [] → IsResult inputs k seq
    → (r : Record) × (record_of (record_options (reading_checks inputs)) (run_at inputs k) seq ≡ Ok r)
    × (result_at (written_run inputs k) seq ≡ written_by inputs r (number_among_all inputs k seq) (result_at (run_at inputs k) seq))
own_result inputs k seq none there =
    let now = input_runs inputs in
    let runs = run_values now in
    let rs = current_of inputs in
    let qs = limited_of inputs in
    let bs = baseline_of inputs in
    let ss = states_of inputs.checks.matching rs bs in
    let listed = listing_of (file_given inputs) in
    let run = run_at inputs k in
    let b = results_total (take k runs) in
    let c = length (results_of run) in
    let sound = faultless_runs inputs none in
    let logs = log_sides (reading_checks inputs) 0 inputs.logs in
    let alike = read_alike (reading_checks inputs) Log 0 inputs.logs in
    let own = record_at (record_options (reading_checks inputs)) now k seq sound logs alike there.0 there.1 in
    let r = own.0 in
    let q = with_admitted r (admitted_at inputs (b + seq)) in
    let s = state_in inputs.checks.matching r (partner_at inputs (b + seq)) in
    let in_runs : k < length runs = omega (arith, there.0, length-map now (λ p. p.run)) in
    let fits : b + c ≤ length rs = omega (arith, within_total runs k in_runs, records_of_logs now sound logs) in
    let fits_records : b + c ≤ length qs = omega (arith, fits, limited_long (file_given inputs) rs) in
    let fits_states : b + c ≤ length ss = omega (arith, fits, states_long inputs.checks.matching bs (partners_in inputs.checks.matching rs bs) 0 rs) in
    let in_all : b + seq < length rs = omega (arith, fits, there.1) in
    let record_is : get_or (take c (drop b qs)) seq q ≡ q =
    part_at qs b c seq q there.1 ∙ limited_at_place (file_given inputs) rs (b + seq) r q in_all
    ∙ ap (λ found. with_admitted found (admitted_at inputs (b + seq))) (own.2 r) in
    let state_is : get_or (take c (drop b ss)) seq s ≡ s =
    part_at ss b c seq s there.1 ∙ state_at inputs.checks.matching bs (partners_in inputs.checks.matching rs bs) 0 (b + seq) (b + seq) rs r s in_all (omega arith)
    ∙ ap (λ found. state_in inputs.checks.matching found (partner_at inputs (b + seq))) (own.2 r) in
    let in_records : seq < length (take c (drop b qs)) = omega (arith, there.1, part_long qs b c fits_records) in
    let in_states : seq < length (take c (drop b ss)) = omega (arith, there.1, part_long ss b c fits_states) in (
      r,
      own.1,
      ap (λ d. result_at d seq) (merged_at listed qs ss runs k in_runs)
          ∙ ap (λ ds. get_or ds seq null) (merged_results listed (take c (drop b qs)) (take c (drop b ss)) run)
          ∙ written_at listed (take c (drop b qs)) (take c (drop b ss)) (results_of run) seq q s in_records in_states there.1
          ∙ ap (λ found. written listed found (get_or (take c (drop b ss)) seq s) (result_at run seq)) record_is
          ∙ ap (λ state. written listed q state (result_at run seq)) state_is,
    )
