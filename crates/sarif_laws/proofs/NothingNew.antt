-- The law of adopting.
use Rattle.std.proofs.Common.{◌≡◌, ◌+◌, ◌<◌, ◌≤◌, ◌&&◌, ◌++◌, ℕ, zero, suc, Bool, true, false, List, [], ◌∷◌, map, length, take, drop, get_or, None, Some, Ok, refl, sym, ap, ap₂, subst, ◌∙◌, arith, length-append, append-nil}
use Rattle.std.specs.Prelude.{bytes_eq, cond, count_by, flat_map, nat_lt, slice_get, slice_index_or}
use Rattle.std.specs.List.{AllByRecursion, AllZip, range_with_len}
use Rattle.std.proofs.lemmas.Bool.{ltb-false, ltb-true}
use Rattle.std.proofs.lemmas.List.{get_or_past, length-map, map-append, take-append-drop}
use Rattle.std.proofs.lemmas.List.Concat.{flat_map-append}
use Rattle.std.proofs.lemmas.List.Sums.{sum_by-append, sum_by-cons}
use Rattle.std.proofs.lemmas.Option.{same_Some, slice_get-get_or}
use Rattle.serde_json.specs.Data.{Data, null, boolean, number, string, array, object}
use Rattle.serde_json.specs.View.{items_of}
use Rattle.sarif_model.specs.declared.kinds.State.{State}
use Rattle.sarif_model.specs.declared.kinds.State.TheVariants.{Absent, Unchanged}
use Rattle.sarif_model.specs.declared.merge_fault.Source.TheVariants.{Baseline, Log}
use Rattle.sarif_model.specs.declared.record.Record.{Record}
use Rattle.sarif_model.specs.Members.{elements}
use Rattle.sarif_model.specs.Run.{result_at, results_of}
use Rattle.sarif_options.specs.declared.policy.Policy.{Policy}
use Rattle.sarif_options.specs.declared.upkeep.Knowing.{Knowing}
use Rattle.sarif_counts.specs.CountOf.{count_of}
use Rattle.sarif_counts.specs.Hits.{hits_of}
use Rattle.sarif_entries.specs.File.{File}
use Rattle.sarif_findings.specs.Reported.{is_active, level_in, state_in}
use Rattle.sarif_evidence.specs.Evidence.{state_in as matched_state}
use Rattle.sarif_evidence.specs.declared.version.MatchingVersion.{MatchingVersion}
use Rattle.sarif_evidence.specs.declared.version.MatchingVersion.TheVariants.{Two, Three}
use Rattle.sarif_runs.specs.Judging.{run_values}
use Rattle.sarif_runs.specs.Record.{record_of}
use Rattle.sarif_results.specs.Annotated.{own_suppressions}
use Rattle.sarif_results.specs.Drafts.{IsObject, IsRun, Listing}
use Rattle.sarif_match.specs.Partners.{is_taken, partners_in}
use Rattle.sarif_known.specs.Chosen.{Chosen, known_as, knows_regions, results_among, run_as}
use Rattle.sarif_known.specs.KnownResult.{known_result}
use Rattle.sarif_known.specs.KnownRun.{known_run}
use Rattle.sarif_known.specs.Order.{known_runs}
use Rattle.sarif_known.proofs.RunBack.{known_again}
use Rattle.sarif_known_laws.proofs.BarePartners.{all_kept, bare_current}
use Rattle.sarif_runs.specs.declared.run_options.RecordOptions.{RecordOptions}
use Rattle.sarif_known.specs.Laws.{IsOfTool}
use Rattle.sarif_suppress.specs.Limited.{AreUnadmitted, with_admitted}
use Rattle.sarif_known.specs.declared.standing.Standing.{Standing}
use Rattle.sarif_known.specs.Selected.{is_left_out, keep_unless, known_of, unmatched_of}
use Rattle.sarif_read.specs.Reading.{log_of}
use Rattle.sarif_inputs.specs.Faults.{faults_of}
use Rattle.sarif_inputs.specs.Inputs.{Inputs, baseline_runs, input_runs, log_sources, numbered, placed, placed_from, readable, reading_checks, record_options}
use Rattle.sarif_inputs.proofs.ReadFacts.{baseline_sides, log_sides, read_alike}
use Rattle.sarif_inputs.proofs.SourceRuns.{data_placed}
use Rattle.sarif_log.specs.LogBy.{listing_of, partner_in, taken_of}
use Rattle.sarif_log.specs.MergedRuns.{absent_runs, written}
use Rattle.sarif_log.proofs.Limits.{records_unadmitted}
use Rattle.sarif_log.proofs.Told.{state_told}
use Rattle.sarif_merge.specs.Life.{merge_in}
use Rattle.sarif_merge.specs.MergedLog.{current_of, file_given, runs_written, written_inputs}
use Rattle.sarif_merge.specs.OwnResult.{IsResult, baseline_of, number_among_all, partner_at, run_at, admitted_at, written_run}
use Rattle.sarif_merge.proofs.OwnResult.{faultless_runs, own_result, runs_same}
use Rattle.sarif_merge.proofs.ReadObjects.{objects_in}
use Rattle.sarif_heard.specs.Heard.{heard}
use Rattle.sarif_upkeep.specs.Known.{adopts, chosen_now, known_before, known_now, remembered, runs_known}
use Rattle.sarif_upkeep.proofs.Taken.{known_fewer}
use Rattle.sarif_laws.specs.Adopting.{HasNothingNew, IsAbsentOf, IsNextWith, as_known, of_tool, results_kept, results_unmatched}
use Rattle.sarif_laws.specs.Hits.{fails_on, is_hit_in, lists}
use Rattle.sarif_laws.specs.KnownAgain.{IsKnownAgain, as_read, run_as_read}
use Rattle.sarif_laws.specs.NextMerge.{absent_written}
use Rattle.sarif_laws.proofs.AbsentKept.{absent_zip}
use Rattle.sarif_laws.proofs.Accepted.{input_run, no_result}
use Rattle.sarif_laws.proofs.Adopted.{own_unchanged, same_long}
use Rattle.sarif_laws.proofs.ByTool.{IsOfOne, known_of_tool, records_among}
use Rattle.sarif_laws.proofs.ByVersion.{matched_in, turn, turn_among, unmatched_in}
use Rattle.sarif_laws.proofs.Counted.{hits_counted}
use Rattle.sarif_laws.proofs.HitsInside.{none_inside}
use Rattle.sarif_laws.proofs.KnownRuns.{all_again, before_sound, IsChosenAgain, IsChosenSound, now_sound}
use Rattle.sarif_laws.proofs.Limited.{read_limited, read_unadmitted}
use Rattle.sarif_laws.proofs.Lists.{all_append, same_counts}
use Rattle.sarif_laws.proofs.OfTool.{sources_sound}
use Rattle.sarif_laws.proofs.Places.{has_place}
use Rattle.sarif_laws.proofs.Remembered.{can_be_read, faultless_before, runs_alike}
use Rattle.sarif_laws.proofs.SameLogs.{all_regions, known_current}

-- ---- nothing is left out

whole_list : (file : File) (policy : Policy) (adopt : Bool) (rs : List Record) (states : List Standing)
    → length rs ≤ length (known_of file policy adopt rs states) → known_of file policy adopt rs states ≡ rs
whole_list file policy adopt [] states long = refl
whole_list file policy adopt (r ∷ rs) [] long = absurd (omega (arith, long))
whole_list file policy adopt (r ∷ rs) (state ∷ states) long = by_test (is_left_out file policy adopt r state) long (whole_list file policy adopt rs states)
  where
    by_test : (b : Bool) → suc (length rs) ≤ length (keep_unless b r (known_of file policy adopt rs states))
        → (length rs ≤ length (known_of file policy adopt rs states) → known_of file policy adopt rs states ≡ rs)
        → keep_unless b r (known_of file policy adopt rs states) ≡ r ∷ rs
    by_test true long rest = absurd (omega (arith, long, known_fewer file policy adopt rs states))
    by_test false long rest = ap (λ l. r ∷ l) (rest (omega (arith, long)))

fewer_chosen : (file : File) (policy : Policy) (adopt : Bool) (runs : List Data) (rs : List Record) (states : List Standing)
    → results_among (chosen_now file policy adopt runs rs states) ≤ length rs
fewer_chosen file policy adopt [] rs states = omega arith
fewer_chosen file policy adopt (run ∷ runs) rs states =
    let n = length (results_of run) in
    omega (
      arith,
      known_fewer file policy adopt (take n rs) (take n states),
      fewer_chosen file policy adopt runs (drop n rs)
          (drop n states),
      ap length (take-append-drop n rs),
      length-append (take n rs) (drop n rs),
    )

whole_now : (file : File) (policy : Policy) (adopt : Bool) (runs : List Data) (rs : List Record) (states : List Standing)
    → length rs ≤ results_among (chosen_now file policy adopt runs rs states)
    → records_among (chosen_now file policy adopt runs rs states) ≡ rs
whole_now file policy adopt [] [] states long = refl
whole_now file policy adopt [] (r ∷ rs) states long = absurd (omega (arith, long))
whole_now file policy adopt (run ∷ runs) rs states long =
    let n = length (results_of run) in
    let parts = ap length (take-append-drop n rs) in
    let sum = length-append (take n rs) (drop n rs) in
    let first = known_fewer file policy adopt (take n rs) (take n states) in
    let others = fewer_chosen file policy adopt runs (drop n rs) (drop n states) in
    ap₂ (λ xs ys. xs ++ ys) (whole_list file policy adopt (take n rs) (take n states) (omega (arith, long, parts, sum, first, others)))
    (whole_now file policy adopt runs (drop n rs) (drop n states) (omega (arith, long, parts, sum, first, others)))
    ∙ take-append-drop n rs

of_one : (options : RecordOptions) (tool : List ℕ) (rs : List Record) → AllByRecursion (λ r. IsOfTool options tool (as_read r)) rs
    → AllByRecursion (λ r. r.tool ≡ tool) rs
of_one options tool [] all = tt
of_one options tool (r ∷ rs) all = (all.0.tool_is, of_one options tool rs all.1)

all_of_one : (options : RecordOptions) (runs : List Chosen) → AllByRecursion (IsChosenAgain options) runs → AllByRecursion IsOfOne runs
all_of_one options [] all = tt
all_of_one options (run ∷ runs) all = (of_one options run.tool run.records all.0, all_of_one options runs all.1)

-- ---- records as they are read

of_read : (tool : List ℕ) (rs : List Record) → of_tool tool (map as_read rs) ≡ map as_read (of_tool tool rs)
of_read tool [] = refl
of_read tool (r ∷ rs) =
    elim (bytes_eq r.tool tool) as
    (λ b. cond b (as_read r ∷ of_tool tool (map as_read rs)) (of_tool tool (map as_read rs)) ≡ map as_read (cond b (r ∷ of_tool tool rs) (of_tool tool rs)))
    [ true ↦ ap (λ l. as_read r ∷ l) (of_read tool rs) | false ↦ of_read tool rs ]

among_read : (runs : List Chosen) → records_among (map run_as_read runs) ≡ map as_read (records_among runs)
among_read [] = refl
among_read (run ∷ runs) =
    ap (λ l. map as_read run.records ++ l) (among_read runs) ∙ sym (map-append as_read run.records (records_among runs))

turn_read : (v : MatchingVersion) (cs more : List Record) → map as_read (turn v cs more) ≡ turn v (map as_read cs) (map as_read more)
turn_read Two cs more = map-append as_read cs more
turn_read Three cs more = map-append as_read more cs

-- ---- records as they become known

of_known : (regions : Bool) (tool : List ℕ) (rs : List Record) → of_tool tool (map (known_as regions) rs) ≡ map (known_as regions) (of_tool tool rs)
of_known regions tool [] = refl
of_known regions tool (r ∷ rs) =
    elim (bytes_eq r.tool tool) as
    (λ b. cond b (known_as regions r ∷ of_tool tool (map (known_as regions) rs)) (of_tool tool (map (known_as regions) rs))
    ≡ map (known_as regions) (cond b (r ∷ of_tool tool rs) (of_tool tool rs)))
    [ true ↦ ap (λ l. known_as regions r ∷ l) (of_known regions tool rs) | false ↦ of_known regions tool rs ]

among_known : (regions : Bool) (runs : List Chosen) → records_among (map (run_as regions) runs) ≡ map (known_as regions) (records_among runs)
among_known regions [] = refl
among_known regions (run ∷ runs) =
    ap (λ l. map (known_as regions) run.records ++ l) (among_known regions runs) ∙ sym (map-append (known_as regions) run.records (records_among runs))

turn_known : (regions : Bool) (v : MatchingVersion) (cs more : List Record)
    → map (known_as regions) (turn v cs more) ≡ turn v (map (known_as regions) cs) (map (known_as regions) more)
turn_known regions Two cs more = map-append (known_as regions) cs more
turn_known regions Three cs more = map-append (known_as regions) more cs

read_known : (regions : Bool) (rs : List Record) → map as_read (map (known_as regions) rs) ≡ map (known_as regions) (map as_read rs)
read_known regions [] = refl
read_known regions (r ∷ rs) = ap (λ l. known_as regions (as_read r) ∷ l) (read_known regions rs)

-- matching sees current results as they become known
known_partners : (v : MatchingVersion) (once : Bool) (cs bs : List Record) → partners_in v (map (known_as (knows_regions v once)) cs) bs ≡ partners_in v cs bs
known_partners Two true cs bs = ap (λ l. partners_in Two l bs) (all_kept cs)
known_partners Two false cs bs = bare_current cs bs
known_partners Three once cs bs = ap (λ l. partners_in Three l bs) (all_kept cs)

-- a result that is matched with itself, as it becomes known, is unchanged
known_unchanged : (v : MatchingVersion) (once : Bool) (r : Record) → matched_state v r (Some (known_as (knows_regions v once) r)) ≡ Unchanged
known_unchanged Two true r = own_unchanged Two r
known_unchanged Two false r = own_unchanged Two r
known_unchanged Three once r = own_unchanged Three r

known_at : (regions : Bool) (rs : List Record) (i : ℕ) (r : Record) → slice_get rs i ≡ Some r → slice_get (map (known_as regions) rs) i ≡ Some (known_as regions r)
known_at regions [] i r is = let never : ⊥ = cc in absurd never
known_at regions (x ∷ rs) zero r is = ap (λ q. Some (known_as regions q)) (same_Some x r is)
known_at regions (x ∷ rs) (suc i) r is = known_at regions rs i r is

one_unadmitted : (options : RecordOptions) (tool : List ℕ) (rs : List Record) → AllByRecursion (IsOfTool options tool) rs → AreUnadmitted rs
one_unadmitted options tool [] all = tt
one_unadmitted options tool (r ∷ rs) all = (all.0.readable.unadmitted, one_unadmitted options tool rs all.1)

among_unadmitted : (options : RecordOptions) (runs : List Chosen) → AllByRecursion (IsChosenSound options) runs → AreUnadmitted (records_among runs)
among_unadmitted options [] all = tt
among_unadmitted options (run ∷ runs) all =
    all_append (λ r. r.admitted ≡ []) run.records (records_among runs) (one_unadmitted options run.tool run.records all.0) (among_unadmitted options runs all.1)

-- ---- objects

pub get_object : (ds : List Data) (n : ℕ) → n < length ds → AllByRecursion IsObject ds → IsObject (get_or ds n null)
get_object [] n within all = absurd (omega (arith, within))
get_object (d ∷ ds) zero within all = all.0
get_object (d ∷ ds) (suc n) within all = get_object ds n (omega (arith, within)) all.1

pub run_objects : (runs : List Data) (k : ℕ) → k < length runs → AllByRecursion IsRun runs → AllByRecursion IsObject (results_of (get_or runs k null))
run_objects [] k within all = absurd (omega (arith, within))
run_objects (run ∷ runs) zero within all = all.0.1
run_objects (run ∷ runs) (suc k) within all = run_objects runs k (omega (arith, within)) all.1

state_written : (listed : Listing) (r : Record) (state : State) (d : Data) → IsObject d → state_in (written listed r state d) ≡ Some state
state_written listed r state null never = absurd never
state_written listed r state (boolean b) never = absurd never
state_written listed r state (number n) never = absurd never
state_written listed r state (string s) never = absurd never
state_written listed r state (array ds) never = absurd never
state_written listed r state (object ms) is = state_told r.level state (items_of (listed r (elements (own_suppressions ms)))) ms

-- ---- hits

module _ (policy : Policy) where
  not_listed : (state : State) (d : Data) → state_in d ≡ Some state → lists policy (Some state) ≡ false → is_hit_in policy d ≡ false
  not_listed state d is none =
      ap (λ o. (lists policy o && fails_on policy (level_in d)) && is_active d) is ∙ ap (λ b. (b && fails_on policy (level_in d)) && is_active d) none

  none_absent : (rs : List Record) (ds : List Data) → AllZip IsAbsentOf rs ds → policy.states.absent ≡ false → count_by (is_hit_in policy) ds ≡ 0
  none_absent [] [] all none = refl
  none_absent [] (d ∷ ds) all none = absurd all
  none_absent (r ∷ rs) [] all none = absurd all
  none_absent (r ∷ rs) (d ∷ ds) all none =
      sum_by-cons (λ x. cond (is_hit_in policy x) 1 0) d ds
      ∙ ap (λ b. cond b 1 0 + count_by (is_hit_in policy) ds)
      (ap (is_hit_in policy) all.0.1
      ∙ not_listed Absent (written (λ _ own. own) r Absent (known_result r all.0.0))
      (state_written (λ _ own. own) r Absent (known_result r all.0.0) tt) none)
      ∙ ap (λ n. 0 + n) (none_absent rs ds all.1 none)

none_at_all : (ds : List Data) → count_by (λ _. false) ds ≡ 0
none_at_all [] = refl
none_at_all (d ∷ ds) = sum_by-cons (λ _. cond false 1 0) d ds ∙ ap (λ n. 0 + n) (none_at_all ds)

-- ---- the law

zip_long : (rs : List Record) (ds : List Data) → AllZip IsAbsentOf rs ds → length ds ≡ length rs
zip_long [] [] all = refl
zip_long [] (d ∷ ds) all = absurd all
zip_long (r ∷ rs) [] all = absurd all
zip_long (r ∷ rs) (d ∷ ds) all = ap suc (zip_long rs ds all.1)

module _ (inputs : Inputs) (policy : Policy) (knowing : Knowing) (known : List ℕ) (later : Inputs) (sound : faults_of inputs ≡ [])
    (whole : (remembered (merge_in inputs policy) knowing).left_out ≡ 0)
    (again : IsKnownAgain (record_options inputs.checks) (runs_known (merge_in inputs policy) knowing) known)
    (next : IsNextWith inputs known later) where
  -- the runs of the known log, as they are read
  abbrev runs : List Chosen
  runs = map run_as_read (runs_known (merge_in inputs policy) knowing)

  -- whether the known log has regions and snippets, as both merges say
  abbrev regions : Bool
  regions = knows_regions inputs.checks.matching inputs.checks.once

  abbrev later_regions : Bool
  later_regions = knows_regions later.checks.matching later.checks.once

  regions_are : later_regions ≡ regions
  regions_are = ap₂ knows_regions next.matching next.once

  now_read : map as_read (merge_in inputs policy).records ≡ current_of inputs
  now_read = read_limited (file_given inputs) (current_of inputs) (records_unadmitted (input_runs inputs))

  now_own : AllByRecursion IsOfOne (known_now (merge_in inputs policy) (adopts knowing))
  now_own =
      let m = merge_in inputs policy in
      let options = record_options (reading_checks inputs) in
      all_of_one options (known_now m (adopts knowing))
      (now_sound options m.file m.policy (adopts knowing) (input_runs inputs) m.records m.standings now_read
      (faultless_runs inputs sound) (log_sides (reading_checks inputs) 0 inputs.logs) (sources_sound (reading_checks inputs) Log 0 inputs.logs))

  before_own_options : AllByRecursion (IsChosenSound (record_options (reading_checks inputs))) (known_before (merge_in inputs policy))
  before_own_options =
      let m = merge_in inputs policy in
      before_sound (record_options (reading_checks inputs)) (heard m.runs) (baseline_runs inputs) m.taken (faultless_before inputs sound)
      (baseline_sides (reading_checks inputs) 0 inputs.baselines) (sources_sound (reading_checks inputs) Baseline 0 inputs.baselines)

  before_own : AllByRecursion IsOfOne (known_before (merge_in inputs policy))
  before_own =
      let m = merge_in inputs policy in
      let options = record_options (reading_checks inputs) in
      all_of_one options (known_before m) (all_again options (known_before m) before_own_options)

  -- the results of the baselines that stay known
  abbrev kept : List Record
  kept = records_among (known_before (merge_in inputs policy))

  kept_read : map as_read kept ≡ kept
  kept_read = read_unadmitted kept (among_unadmitted (record_options (reading_checks inputs)) (known_before (merge_in inputs policy)) before_own_options)

  all_now : map as_read (map (known_as regions) (records_among (known_now (merge_in inputs policy) (adopts knowing)))) ≡ map (known_as regions) (current_of later)
  all_now =
      let m = merge_in inputs policy in
      let now = records_among (known_now m (adopts knowing)) in
      read_known regions now
      ∙ ap (map (known_as regions))
      (ap (map as_read) (whole_now m.file m.policy (adopts knowing) m.runs m.records m.standings (omega (arith, whole))) ∙ now_read)
      ∙ known_current inputs later next.logs next.matching next.once next.ignored sound next.faultless

  all_kept_read : map as_read (map (known_as regions) kept) ≡ results_kept inputs policy
  all_kept_read = read_known regions kept ∙ ap (map (known_as regions)) kept_read

  -- the runs of the known log
  baseline_is : run_values (baseline_runs later) ≡ map known_run runs
  baseline_is =
      let checks = reading_checks later in
      let allow = later.checks.allow_external in
      let read = readable (log_of allow known) in
      ap (λ bs. run_values (placed (numbered checks Baseline 0 bs))) next.baseline
      ∙ ap run_values (append-nil (placed_from checks (Baseline 0) 0 read))
      ∙ data_placed checks (Baseline 0) 0 read
      ∙ ap readable (again.log allow)
      ∙ sym (runs_alike (runs_known (merge_in inputs policy) knowing))

  -- the known results are read in the later merge as they were known
  records_are : baseline_of later ≡ records_among runs
  records_are =
      let options = record_options (reading_checks later) in
      let can =
      can_be_read inputs policy knowing sound options next.ignored
      (λ all. all_regions later.checks.matching later.checks.once later.snippets (regions_are ∙ all)) in
      (known_again options runs (baseline_runs later) (read_alike (reading_checks later) Baseline 0 later.baselines) baseline_is can.each can.few_results).records

  same_tools : (tool : List ℕ)
      → of_tool tool (baseline_of later) ≡ of_tool tool (turn later.checks.matching (map (known_as later_regions) (current_of later)) (results_kept inputs policy))
  same_tools tool =
      let m = merge_in inputs policy in
      let now = known_now m (adopts knowing) in
      let all = known_runs m.matching now (known_before m) in
      let known = known_as regions in
      ap (of_tool tool) (records_are ∙ among_read (runs_known m knowing) ∙ ap (map as_read) (among_known regions all))
      ∙ of_read tool (map known (records_among all))
      ∙ ap (map as_read) (of_known regions tool (records_among all))
      ∙ ap (λ rs. map as_read (map known rs)) (known_of_tool tool m.matching now (known_before m) now_own before_own
      ∙ ap (of_tool tool) (turn_among m.matching now (known_before m)))
      ∙ sym (ap (map as_read) (of_known regions tool (turn m.matching (records_among now) kept)))
      ∙ sym (of_read tool (map known (turn m.matching (records_among now) kept)))
      ∙ ap (λ rs. of_tool tool (map as_read rs)) (turn_known regions m.matching (records_among now) kept)
      ∙ ap (of_tool tool) (turn_read m.matching (map known (records_among now)) (map known kept))
      ∙ ap₂ (λ cs more. of_tool tool (turn m.matching cs more)) all_now all_kept_read
      ∙ ap₂ (λ v b. of_tool tool (turn v (map (known_as b) (current_of later)) (results_kept inputs policy))) (sym next.matching) (sym regions_are)

  matched_there : (k seq : ℕ) (r : Record) → IsResult later k seq → record_of (record_options (reading_checks later)) (run_at later k) seq ≡ Ok r
      → partner_at later (number_among_all later k seq) ≡ Some (as_known later r)
  matched_there k seq r there is =
      let place = number_among_all later k seq in
      let at = has_place later k seq r next.faultless there is in
      ap (λ partners. partner_in (baseline_of later) (slice_index_or partners place None))
      (sym (known_partners later.checks.matching later.checks.once (current_of later) (baseline_of later)))
      ∙ matched_in later.checks.matching (map (known_as later_regions) (current_of later)) (results_kept inputs policy) (baseline_of later) same_tools place
      (as_known later r)
      (known_at later_regions (current_of later) place r (slice_get-get_or (current_of later) place r at.in_records ∙ ap Some at.record_is))

  unchanged_written : (k seq : ℕ) → IsResult later k seq → state_in (result_at (written_run later k) seq) ≡ Some Unchanged
  unchanged_written k seq there =
      let own = own_result later k seq next.faultless there in
      let r = own.0 in
      let d = result_at (run_at later k) seq in
      let listed = listing_of (file_given later) in
      let as_written : Record = with_admitted r (admitted_at later (number_among_all later k seq)) in
      let in_runs : k < length (run_values (input_runs later)) = omega (arith, there.0, length-map (input_runs later) (λ p. p.run)) in
      let has = get_object (results_of (run_at later k)) seq there.1 (run_objects (run_values (input_runs later)) k in_runs (objects_in (log_sources later))) in
      ap state_in own.2
      ∙ ap (λ partner. state_in (written listed as_written (matched_state later.checks.matching r partner) d)) (matched_there k seq r there own.1)
      ∙ ap (λ state. state_in (written listed as_written state d)) (known_unchanged later.checks.matching later.checks.once r)
      ∙ state_written listed as_written Unchanged d has

  others_there : (tool : List ℕ) → of_tool tool (results_unmatched later) ≡ of_tool tool (results_kept inputs policy)
  others_there tool =
      let bs = baseline_of later in
      ap (λ partners. of_tool tool (unmatched_of bs (map (is_taken partners) (range_with_len 0 (length bs)))))
      (sym (known_partners later.checks.matching later.checks.once (current_of later) bs))
      ∙ unmatched_in later.checks.matching (map (known_as later_regions) (current_of later)) (results_kept inputs policy) bs same_tools tool

  absent_there : AllZip IsAbsentOf (results_unmatched later) (flat_map results_of (absent_written later))
  absent_there =
      let taken = taken_of later.checks.matching (current_of later) (baseline_of later) in
      subst (λ bs. AllZip IsAbsentOf (unmatched_of bs taken) (flat_map results_of (absent_runs bs taken (run_values (baseline_runs later))))) (sym records_are)
      (subst (λ vs. AllZip IsAbsentOf (unmatched_of (records_among runs) taken) (flat_map results_of (absent_runs (records_among runs) taken vs)))
      (sym baseline_is) (absent_zip runs taken))

  module _ (any : Policy) (current : any.states.unchanged ≡ false) (gone : any.states.absent ≡ false) where
    no_hit : (k seq : ℕ) → is_hit_in any (result_at (written_run later k) seq) ≡ false
    no_hit k seq = by_run (nat_lt k (length (input_runs later))) refl (nat_lt seq (length (results_of (run_at later k)))) refl
      where
        by_run : (a : Bool) → nat_lt k (length (input_runs later)) ≡ a → (b : Bool) → nat_lt seq (length (results_of (run_at later k))) ≡ b
            → is_hit_in any (result_at (written_run later k) seq) ≡ false
        by_run true run true result =
            let there : IsResult later k seq = (ltb-true k (length (input_runs later)) run, ltb-true seq (length (results_of (run_at later k))) result) in
            not_listed any Unchanged (result_at (written_run later k) seq) (unchanged_written k seq there) current
        by_run true run false result =
            ap (is_hit_in any)
            (no_result later k seq (ltb-true k (length (input_runs later)) run) (ltb-false seq (length (results_of (run_at later k))) result))
        by_run false run b result =
            let past = ltb-false k (length (input_runs later)) run in
            ap (λ run. is_hit_in any (result_at run seq)) (get_or_past (written_inputs later) k null (omega (arith, past, runs_same later)))

    no_hits : hits_of (count_of (runs_written later)) any ≡ 0
    no_hits =
        let hit = is_hit_in any in
        let one = λ (d : Data). cond (hit d) 1 0 in
        let here : count_by hit (flat_map results_of (written_inputs later)) ≡ 0 =
        same_counts hit (λ _. false) (written_inputs later) (written_inputs later) refl (λ k. refl) no_hit
        ∙ none_at_all (flat_map results_of (written_inputs later)) in
        let there = none_absent any (results_unmatched later) (flat_map results_of (absent_written later)) absent_there gone in
        hits_counted any (runs_written later)
        ∙ ap (count_by hit) (flat_map-append results_of (written_inputs later) (absent_written later))
        ∙ sum_by-append one (flat_map results_of (written_inputs later)) (flat_map results_of (absent_written later))
        ∙ ap₂ (λ m n. m + n) here there

  pub law_of_adopting : HasNothingNew (results_kept inputs policy) later
  law_of_adopting = record {
    matched = matched_there;
    unchanged = λ k seq there. ap (λ run. state_in (result_at run seq)) (input_run later k there.0) ∙ unchanged_written k seq there;
    others = others_there;
    absent = absent_there;
    count = zip_long (results_unmatched later) (flat_map results_of (absent_written later)) absent_there
        ∙ same_long (results_unmatched later) (results_kept inputs policy) others_there;
    verdict = λ change any current gone. none_inside change any (runs_written later) (no_hits any current gone);
  }
