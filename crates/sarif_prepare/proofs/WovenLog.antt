-- The log of findings and their copies.
use Rattle.std.proofs.Common.{◌≡◌, ◌≤◌, ◌+◌, ◌++◌, Bool, false, true, List, Option, Some, map, length, refl, sym, ap, ap₂, ◌∙◌, subst, arith}
use Rattle.std.proofs.lemmas.List.{map-append, length-map}
use Rattle.std.specs.List.{flat_map}
use Rattle.serde_json.specs.Written.{compact_text}
use Rattle.sarif_copies.specs.Copies.{copies_of, numbers_of, spread}
use Rattle.sarif_counts.specs.CountOf.{count_of}
use Rattle.sarif_counts.proofs.CountAppend.{count_of-append}
use Rattle.sarif_entries.specs.File.{File}
use Rattle.sarif_findings.specs.declared.reporting.Reporting.{Reporting}
use Rattle.sarif_log.specs.Copies.{places_from}
use Rattle.sarif_log.specs.Internal.Copied.{marks_of_left, masked, places_by}
use Rattle.sarif_log.specs.Internal.Side.{IsSide}
use Rattle.sarif_log.specs.Internal.Texts.{left_texts, own_count, present_results, runs_texts, tallied}
use Rattle.sarif_log.specs.Internal.Written.{AreWrittenWith}
use Rattle.sarif_log.specs.LogBy.{current_runs, leftover_runs, limited_records, listing_of, runs_without_results, states_of, taken_of}
use Rattle.sarif_log.specs.MergedRuns.{absent_runs, merged_runs}
use Rattle.sarif_log.specs.declared.merged_text.Side.{Side}
use Rattle.std.specs.Prelude.{option_map}
use Rattle.sarif_options.specs.declared.policy.Policy.{Policy}
use Rattle.sarif_policy.specs.declared.condition.GateCondition.{GateCondition}
use Rattle.sarif_prepare.specs.Ruled.{matched_in, ruled_by}
use Rattle.sarif_prepare.specs.Told.{told_in}
use Rattle.sarif_scope.specs.Gate.{facts_of}
use Rattle.sarif_scope.specs.declared.gated.GatedChange.{GatedChange}
use Rattle.sarif_log.specs.declared.prepared.CopyFlags.{CopyFlags}
use Rattle.sarif_log.specs.declared.prepared.Prepared.{Prepared}
use Rattle.sarif_log.proofs.RunCounts.{left_count as left_counted, runs_count}
use Rattle.sarif_log.proofs.RunTexts.{runs_written}
use Rattle.sarif_log.proofs.Sides.{drafts_long, few_present, own_total, records_present, results_long, runs_long, states_long, taken_long}
use Rattle.sarif_evidence.specs.declared.version.MatchingVersion.{MatchingVersion}
use Rattle.sarif_match.specs.Partners.{partners_in}
use Rattle.sarif_model.specs.declared.kinds.Level.{Level}
use Rattle.sarif_model.specs.declared.kinds.State.{State}
use Rattle.sarif_model.specs.declared.record.Record.{Record}
use Rattle.sarif_model.specs.declared.kinds.State.TheVariants.{Absent, New}
use Rattle.sarif_model.specs.Limits.{most_results}
use Rattle.sarif_model.specs.Run.{results_of}
use Rattle.sarif_once.specs.Once.{without_copies}
use Rattle.sarif_once.proofs.Marks.{findings_left, marked_each}
use Rattle.sarif_once.proofs.Spread.{spread_found, spread_long}
use Rattle.sarif_read.specs.Unmarked.{unmarked}
use Rattle.sarif_read.proofs.Only.{unmarked_map}
use Rattle.sarif_results.specs.Drafts.{applied_of, unapplied}
use Rattle.sarif_results.specs.Internal.Judged.{placed_in, IsJudged}
use Rattle.sarif_results.specs.declared.judged.Judged.{Judged}
use Rattle.sarif_results.proofs.JudgedCounts.{records_of_logs}
use Rattle.sarif_runs.specs.Judging.{records_of, run_values}
use Rattle.sarif_runs.specs.Placed.{Placed}
use Rattle.sarif_prepare.specs.Internal.Apart.{current_drafts}
use Rattle.sarif_prepare.specs.Internal.Baselines.{baseline_drafts}
use Rattle.sarif_prepare.specs.Internal.Leftover.{not_taken}
use Rattle.sarif_prepare.specs.Internal.Together.{AreTogether, IsPaired}
use Rattle.sarif_suppress.specs.Suppressing.{unused_of}
use Rattle.sarif_prepare.specs.Internal.Woven.{flags_of, AreCurrentWoven, AreLeftWoven, AreWhole}
use Rattle.sarif_prepare.specs.Once.{copies_written, current_once, findings_only, leftover_once, marks_of_absent, marks_of_runs, runs_counted, runs_once, IsPreparedOnce}
use Rattle.sarif_prepare.specs.declared.baselines.Baselines.{Baselines}
use Rattle.sarif_prepare.specs.declared.halves.Half.{Half}
use Rattle.sarif_prepare.specs.declared.pairing.Paired.{Paired}
use Rattle.sarif_prepare.specs.declared.woven.CurrentWoven.{CurrentWoven}
use Rattle.sarif_prepare.specs.declared.woven.LeftWoven.{LeftWoven}
use Rattle.sarif_prepare.proofs.CopyDrafts.{found_before, found_drafts}
use Rattle.sarif_prepare.proofs.CopyPlaces.{counted_found, places_before, places_now}
use Rattle.sarif_prepare.proofs.LeftTexts.{counts, left_total, left_written, long}
use Rattle.sarif_once.proofs.WovenLists.{found_left}
use Rattle.sarif_prepare.proofs.Untaken.{untaken_is}
use Rattle.sarif_prepare.proofs.WrittenSides.{few_left}
use Rattle.sarif_log.proofs.Limits.{limited_long}
use Rattle.sarif_prepare.specs.Internal.Limiting.{drafts_of}
use Rattle.sarif_prepare.specs.Once.{limited_once, admitted_once}
use Rattle.sarif_prepare.proofs.Limits.{each_long, once_long}
use Rattle.sarif_prepare.proofs.MatchedRecords.{limited_total, matched_records}

-- ---- the runs of both sides

pub whole_sides : (file : File) (current baseline : Judged) → IsJudged file false current → IsJudged file true baseline
    → AreWhole (placed_in current) (placed_in baseline)
whole_sides file current baseline j k =
    let now = placed_in current in
    let before = placed_in baseline in
    let records = records_of_logs now j.faultless j.sources in
    let many = records_present before k.faultless k.sources in
    let present = few_present (run_values before) in record {
      current_are_runs = j.objects;
      baseline_are_runs = k.objects;
      current_records = records;
      baseline_records = many;
      current_faultless = j.faultless;
      baseline_faultless = k.faultless;
      current_sources = j.sources;
      baseline_sources = k.sources;
      few_runs = j.few_runs;
      few_current = omega (arith, records, j.few_results);
      few_baseline = omega (arith, many, present, k.few_results);
    }

-- ---- numbers of results

once_many : (file : File) (rs : List Record) → length (limited_once file rs) ≡ length rs
once_many file rs = each_long rs (admitted_once file rs) (once_long file rs)

pub current_long : (file : File) (now before : List Placed) → AreWhole now before → length (current_drafts file now) ≡ length (records_of now)
current_long file now before w =
    drafts_long (listing_of file) (applied_of file) (limited_once file (records_of now)) (flat_map results_of (run_values now))
    (once_many file (records_of now) ∙ w.current_records ∙ sym (results_long (run_values now)))
    ∙ once_many file (records_of now)

pub before_long : (now before : List Placed) → AreWhole now before → length (baseline_drafts before) ≡ length (records_of before)
before_long now before w = drafts_long (λ _ own. own) unapplied (records_of before) (present_results (run_values before)) w.baseline_records

module _ (file : File) (now before : List Placed) (w : AreWhole now before) (xs : List State) (copies : List Bool) (side : Side)
    (woven : AreCurrentWoven file xs now copies side) where
  pub now_is_side : IsSide side
  now_is_side =
      let many = current_long file now before w in record {
        whole = woven.whole;
        drafts = ap length woven.drafts ∙ many ∙ w.current_records ∙ sym (own_total side.runs.items (run_values now) woven.parts);
        states =
            ap length woven.states ∙ length-map (spread New (numbers_of (records_of now)) xs) Some
            ∙ spread_long New (records_of now) xs ∙ sym many ∙ sym (ap length woven.drafts);
      }

  pub now_few : length side.drafts.items ≤ most_results
  now_few = let many = ap length woven.drafts ∙ current_long file now before w in omega (arith, many, w.few_current)

  pub now_flags : length copies ≡ length side.drafts.items
  now_flags = ap length woven.copies ∙ marked_each (records_of now) ∙ sym (ap length woven.drafts ∙ current_long file now before w)

  pub now_texts : runs_texts side.runs.items side.drafts.items side.states.items
      ≡ map compact_text (merged_runs (listing_of file) (limited_once file (records_of now)) (spread New (numbers_of (records_of now)) xs) (run_values now))
  now_texts =
      ap (λ ds. runs_texts side.runs.items ds side.states.items) woven.drafts
      ∙ ap (runs_texts side.runs.items (current_drafts file now)) woven.states
      ∙ runs_written (listing_of file) (applied_of file) (limited_once file (records_of now)) (spread New (numbers_of (records_of now)) xs) side.runs.items
      (run_values now) w.current_are_runs woven.parts (once_many file (records_of now) ∙ w.current_records)
      (spread_long New (records_of now) xs ∙ sym (once_many file (records_of now)))

module _ (now before : List Placed) (w : AreWhole now before) (taken : List Bool) (copies : List Bool) (side : Side)
    (woven : AreLeftWoven taken before copies side) where
  taken_all : length (spread false (numbers_of (records_of before)) taken) ≡ length (records_of before)
  taken_all = spread_long false (records_of before) taken

  drafts_all : length (baseline_drafts before) ≡ length (spread false (numbers_of (records_of before)) taken)
  drafts_all = before_long now before w ∙ sym taken_all

  marks_all : length (copies_of (records_of before)) ≡ length (spread false (numbers_of (records_of before)) taken)
  marks_all = marked_each (records_of before) ∙ sym taken_all

  pub before_is_side : IsSide side
  before_is_side =
      let ts = spread false (numbers_of (records_of before)) taken in record {
        whole = woven.left.whole;
        drafts =
            ap length woven.left.drafts
            ∙ long ts (baseline_drafts before) ts drafts_all refl
            ∙ sym (left_total side.runs.items ts (run_values before) woven.left.parts (taken_all ∙ w.baseline_records));
        states = ap length woven.left.states ∙ length-map side.drafts.items (λ _. Some Absent);
      }

  pub before_few : length side.drafts.items ≤ most_results
  before_few =
      let fewer = few_left (spread false (numbers_of (records_of before)) taken) (baseline_drafts before) in
      let same = ap length woven.left.drafts in
      let all = before_long now before w in
      omega (arith, fewer, same, all, w.few_baseline)

  pub before_flags : length copies ≡ length side.drafts.items
  before_flags =
      ap length (woven.copies ∙ sym (untaken_is (spread false (numbers_of (records_of before)) taken) (copies_of (records_of before))))
      ∙ long (spread false (numbers_of (records_of before)) taken) (copies_of (records_of before)) (baseline_drafts before) marks_all drafts_all
      ∙ sym (ap length woven.left.drafts)

  pub before_texts : left_texts side.runs.items side.drafts.items side.states.items
      ≡ map compact_text (absent_runs (records_of before) (spread false (numbers_of (records_of before)) taken) (run_values before))
  before_texts =
      let ts = spread false (numbers_of (records_of before)) taken in
      ap (left_texts side.runs.items side.drafts.items) woven.left.states
      ∙ ap (λ es. left_texts side.runs.items es (map (λ _. Some Absent) es)) woven.left.drafts
      ∙ left_written (records_of before) ts side.runs.items (run_values before) (baseline_drafts before) w.baseline_are_runs woven.left.parts w.baseline_records
      taken_all refl drafts_all

-- ---- what is counted

module _ (v : MatchingVersion) (file : File) (now before : List Placed) (c : Half) (b : Baselines) (w : AreWhole now before)
    (t : AreTogether file (without_copies now) (without_copies before) c b) where
  now_counts : (copies : List Bool) (side : Side) (s : State) (l : Level) (x : Bool)
      → AreCurrentWoven file (states_of v (records_of (without_copies now)) (records_of (without_copies before))) now copies side
      → tallied side.drafts.items (masked copies side.states.items) s l x
      ≡ count_of (current_runs v file (without_copies now) (without_copies before)) s l x
  now_counts copies side s l x woven =
      let cs = records_of now in
      let tn = without_copies now in
      let tb = without_copies before in
      let xs = states_of v (records_of tn) (records_of tb) in
      let long_xs : length xs ≡ length (records_of tn) = states_long v (records_of tb) (partners_in v (records_of tn) (records_of tb)) 0 (records_of tn) in
      let is_side = now_is_side file now before w xs copies side woven in
      counted_found copies side.drafts.items side.states.items s l x (now_flags file now before w xs copies side woven) is_side.states
      ∙ ap (λ ms. tallied (unmarked ms side.drafts.items) (unmarked ms side.states.items) s l x) woven.copies
      ∙ ap (λ ds. tallied (unmarked (copies_of cs) ds) (unmarked (copies_of cs) side.states.items) s l x) woven.drafts
      ∙ ap (λ ds. tallied ds (unmarked (copies_of cs) side.states.items) s l x) (sym (found_drafts file now w.current_faultless w.current_sources))
      ∙ ap (λ ss. tallied (drafts_of file (limited_records file tn) (flat_map results_of (run_values tn))) ss s l x)
      (ap (unmarked (copies_of cs)) woven.states ∙ unmarked_map Some (copies_of cs) (spread New (numbers_of cs) xs)
      ∙ ap (map Some) (spread_found New cs xs (long_xs ∙ ap length (findings_left now))))
      ∙ runs_count (listing_of file) (applied_of file) (limited_records file tn) xs (run_values tn) s l x t.current_are_runs
      (limited_total file tn t.current_records) (long_xs ∙ sym (limited_long file (records_of tn)))

  before_counts : (copies : List Bool) (side : Side) (s : State) (l : Level) (x : Bool)
      → AreLeftWoven (taken_of v (records_of (without_copies now)) (records_of (without_copies before))) before copies side
      → tallied side.drafts.items (masked copies side.states.items) s l x
      ≡ count_of (leftover_runs v (without_copies now) (without_copies before)) s l x
  before_counts copies side s l x woven =
      let bs = records_of before in
      let ms = copies_of bs in
      let tn = without_copies now in
      let tb = without_copies before in
      let taken = taken_of v (records_of tn) (records_of tb) in
      let ts = spread false (numbers_of bs) taken in
      let taken_found = taken_long v (records_of tn) (records_of tb) in
      let is_side = before_is_side now before w taken copies side woven in
      let same_t : length ts ≡ length ms = taken_all now before w taken copies side woven ∙ sym (marked_each bs) in
      let same_x : length (baseline_drafts before) ≡ length ms = before_long now before w ∙ sym (marked_each bs) in
      let found : unmarked copies side.drafts.items ≡ not_taken taken (baseline_drafts tb) =
      ap (λ cs. unmarked cs side.drafts.items) woven.copies
      ∙ ap (unmarked (unmarked ts ms)) (woven.left.drafts ∙ untaken_is ts (baseline_drafts before))
      ∙ found_left ts ms (baseline_drafts before) same_t same_x
      ∙ ap (λ us. unmarked us (unmarked ms (baseline_drafts before))) (spread_found false bs taken (taken_found ∙ ap length (findings_left before)))
      ∙ ap (unmarked taken) (sym (found_before before w.baseline_faultless w.baseline_sources))
      ∙ sym (untaken_is taken (baseline_drafts tb)) in
      let drafts_many : length (baseline_drafts tb) ≡ length taken =
      drafts_long (λ _ own. own) unapplied (records_of tb) (present_results (run_values tb)) t.are_baselines.count ∙ sym taken_found in
      counted_found copies side.drafts.items side.states.items s l x (before_flags now before w taken copies side woven) is_side.states
      ∙ ap (λ ss. tallied (unmarked copies side.drafts.items) ss s l x)
      (ap (unmarked copies) woven.left.states ∙ unmarked_map (λ _. Some Absent) copies side.drafts.items)
      ∙ ap (λ ds. tallied ds (map (λ _. Some Absent) ds) s l x) found
      ∙ counts taken (baseline_drafts tb) s l x drafts_many
      ∙ left_counted (records_of tb) taken (run_values tb) s l x t.baseline_are_runs t.are_baselines.count taken_found

  states_same : states_of v (records_of (without_copies now)) (records_of (without_copies before))
      ≡ states_of v (findings_only (records_of now)) (findings_only (records_of before))
  states_same = ap₂ (states_of v) (findings_left now) (findings_left before)

  taken_same : taken_of v (records_of (without_copies now)) (records_of (without_copies before))
      ≡ taken_of v (findings_only (records_of now)) (findings_only (records_of before))
  taken_same = ap₂ (taken_of v) (findings_left now) (findings_left before)

  -- what matching gives the findings
  pub states_given : (paired : Paired) → IsPaired v c b paired
      → paired.states.items ≡ map Some (states_of v (records_of (without_copies now)) (records_of (without_copies before)))
  states_given paired q =
      q.states ∙ ap₂ (λ rs qs. map Some (states_of v rs qs)) (matched_records file (without_copies now) c t.is_current) t.are_baselines.records

  pub taken_given : (paired : Paired) → IsPaired v c b paired
      → paired.taken.items ≡ taken_of v (records_of (without_copies now)) (records_of (without_copies before))
  taken_given paired q = q.taken ∙ ap₂ (taken_of v) (matched_records file (without_copies now) c t.is_current) t.are_baselines.records

  -- the log, and what it counts
  pub woven_written : (flags : CopyFlags) (side other : Side)
      → AreCurrentWoven file (states_of v (records_of (without_copies now)) (records_of (without_copies before))) now flags.current.items side
      → AreLeftWoven (taken_of v (records_of (without_copies now)) (records_of (without_copies before))) before flags.baseline.items other
      → AreWrittenWith (Some flags) side other (runs_once v file now before) (runs_counted v file now before)
  woven_written flags side other here there =
      let tn = without_copies now in
      let tb = without_copies before in
      let xs = states_of v (records_of tn) (records_of tb) in
      let taken = taken_of v (records_of tn) (records_of tb) in
      let texts_here : runs_texts side.runs.items side.drafts.items side.states.items ≡ map compact_text (current_once v file now before) =
      now_texts file now before w xs flags.current.items side here
      ∙ ap (λ ss. map compact_text (merged_runs (listing_of file) (limited_once file (records_of now)) (spread New (numbers_of (records_of now)) ss) (run_values now))) states_same in
      let texts_there : left_texts other.runs.items other.drafts.items other.states.items ≡ map compact_text (leftover_once v now before) =
      before_texts now before w taken flags.baseline.items other there
      ∙ ap (λ ts. map compact_text (absent_runs (records_of before) (spread false (numbers_of (records_of before)) ts) (run_values before))) taken_same in
      record {
        texts =
            map-append compact_text (current_once v file now before) (leftover_once v now before)
            ∙ ap₂ (λ a z. a ++ z) (sym texts_here) (sym texts_there);
        counts = λ s l x.
            ap₂ (λ m n. m + n) (now_counts flags.current.items side s l x here) (before_counts flags.baseline.items other s l x there)
            ∙ sym (count_of-append (current_runs v file tn tb) (leftover_runs v tn tb) s l x);
      }

  -- where the copies are
  pub woven_places : (flags : CopyFlags) (side other : Side)
      → AreCurrentWoven file (states_of v (records_of (without_copies now)) (records_of (without_copies before))) now flags.current.items side
      → AreLeftWoven (taken_of v (records_of (without_copies now)) (records_of (without_copies before))) before flags.baseline.items other
      → places_by (Some flags) side other ≡ Some (copies_written v now before)
  woven_places flags side other here there =
      let taken = taken_of v (records_of (without_copies now)) (records_of (without_copies before)) in
      let bs = records_of before in
      let ts = spread false (numbers_of bs) taken in
      let first =
      places_now side.runs.items (run_values now) flags.current.items here.parts
      ∙ ap (λ ms. marks_of_runs ms (run_values now)) here.copies in
      let rest =
      ap (marks_of_left other.runs.items) (there.copies ∙ sym (untaken_is ts (copies_of bs)))
      ∙ places_before other.runs.items ts (copies_of bs) (run_values before) there.left.parts
      (marks_all now before w taken flags.baseline.items other there)
      (taken_all now before w taken flags.baseline.items other there ∙ w.baseline_records)
      ∙ ap (λ us. marks_of_absent (spread false (numbers_of bs) us) (copies_of bs) (run_values before)) taken_same in
      let runs : length side.runs.items ≡ length now =
      runs_long own_count side.runs.items (run_values now) here.parts ∙ length-map now (λ p. p.run) in
      ap₂ (λ a z. Some (a ++ z)) (ap (places_from 0) first) (ap₂ places_from runs rest)

  -- everything that is written, put together
  pub woven_prepared : (logs : CurrentWoven) (other : LeftWoven) (made : Prepared) (change : Option GatedChange) (policy : Policy)
      (conditions : Option (List GateCondition)) (asked : Option Reporting)
      → AreCurrentWoven file (states_of v (records_of (without_copies now)) (records_of (without_copies before))) now logs.copies.items logs.side.side
      → AreLeftWoven (taken_of v (records_of (without_copies now)) (records_of (without_copies before))) before other.copies.items other.left.side
      → made.current ≡ logs.side.side → made.baseline ≡ other.left.side → made.copies ≡ Some (flags_of logs.copies other.copies)
      → made.without ≡ runs_without_results (run_values now) → made.unused ≡ unused_of file (limited_records file (without_copies now))
      → made.change ≡ option_map (λ g. facts_of g policy (runs_counted v file now before)) change
      → made.ruling ≡ ruled_by conditions v file change (without_copies now) (without_copies before)
      → made.findings.items
      ≡ told_in conditions (matched_in v file change (without_copies now) (without_copies before)) asked (runs_counted v file now before)
      → IsPreparedOnce v file now before change policy conditions asked made
  woven_prepared logs other made change policy conditions asked here there current baseline copies without unused facts ruled told =
      let flags = flags_of logs.copies other.copies in
      let side = logs.side.side in
      let left = other.left.side in
      let all = runs_once v file now before in
      let counted = runs_counted v file now before in record {
        written =
            subst (λ cs. AreWrittenWith cs made.current made.baseline all counted) (sym copies)
            (subst (λ s. AreWrittenWith (Some flags) s made.baseline all counted) (sym current)
            (subst (λ s. AreWrittenWith (Some flags) side s all counted) (sym baseline) (woven_written flags side left here there)));
        named =
            ap (λ cs. places_by cs made.current made.baseline) copies ∙ ap₂ (places_by (Some flags)) current baseline
            ∙ woven_places flags side left here there;
        without = without;
        unused = unused;
        change = facts;
        ruling = ruled;
        told = told;
      }
