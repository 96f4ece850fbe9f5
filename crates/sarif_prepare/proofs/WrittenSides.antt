-- The log of runs of logs and of what is left of baselines.
use Rattle.std.proofs.Common.{◌≡◌, ◌≤◌, ◌+◌, ◌++◌, Bool, false, true, arith, List, [], ◌∷◌, Some, map, length, refl, sym, ap, ◌∙◌}
use Rattle.std.proofs.lemmas.List.{map-append, length-map}
use Rattle.std.specs.List.{flat_map, AllByRecursion}
use Rattle.serde_json.specs.Written.{compact_text}
use Rattle.sarif_model.specs.declared.kinds.Level.{Level}
use Rattle.sarif_model.specs.declared.kinds.State.{State}
use Rattle.sarif_model.specs.declared.kinds.State.TheVariants.{Absent}
use Rattle.sarif_model.specs.Run.{results_of}
use Rattle.sarif_evidence.specs.declared.version.MatchingVersion.{MatchingVersion}
use Rattle.sarif_match.specs.Partners.{partners_in}
use Rattle.sarif_entries.specs.File.{File}
use Rattle.sarif_counts.specs.CountOf.{count_of}
use Rattle.sarif_counts.proofs.CountAppend.{count_of-append}
use Rattle.sarif_runs.specs.Judging.{records_of, run_values}
use Rattle.sarif_prepare.specs.Internal.Leftover.{not_taken}
use Rattle.sarif_runs.specs.Placed.{Placed}
use Rattle.sarif_log.specs.declared.merged_text.Side.{Side}
use Rattle.sarif_results.specs.Drafts.{applied_of, drafts_by, unapplied}
use Rattle.sarif_log.specs.Internal.Texts.{left_texts, own_count, present_results, runs_texts, tallied, ArePartsOf, IsWholeRun}
use Rattle.sarif_log.specs.Internal.Side.{IsSide}
use Rattle.sarif_log.proofs.RunCounts.{left_count, runs_count}
use Rattle.sarif_log.proofs.RunTexts.{runs_written}
use Rattle.sarif_prepare.specs.declared.baselines.Baselines.{Baselines}
use Rattle.sarif_prepare.specs.declared.halves.Half.{Half}
use Rattle.sarif_results.specs.declared.judged.Judged.{Judged}
use Rattle.sarif_prepare.specs.Internal.Baselines.{baseline_drafts, AreBaselines, IsLeft}
use Rattle.sarif_prepare.specs.Internal.Halves.{IsFound}
use Rattle.sarif_results.specs.Internal.Judged.{placed_in, IsJudged}
use Rattle.sarif_log.specs.LogBy.{current_runs, leftover_runs, limited_records, listing_of, runs_by, states_of, taken_of}
use Rattle.sarif_prepare.specs.Internal.Together.{AreFound, AreTogether}
use Rattle.sarif_log.specs.Internal.Written.{AreWritten}
use Rattle.sarif_results.proofs.JudgedCounts.{records_of_logs}
use Rattle.sarif_prepare.proofs.LeftTexts.{counts, left_total, left_written, long}
use Rattle.sarif_log.proofs.Limits.{limited_long}
use Rattle.sarif_prepare.specs.Internal.Limiting.{unadmitted}
use Rattle.sarif_prepare.proofs.MatchedRecords.{limited_results, limited_total, matched_records}
use Rattle.sarif_log.proofs.Sides.{drafts_long, few_present, own_total, states_long, taken_long}

-- ---- the runs of logs

pub current_long : (file : File) (now before : List Placed) (c : Half) (b : Baselines) → AreTogether file now before c b
    → length c.drafts.items ≡ length (records_of now)
current_long file now before c b h =
    ap length h.is_current.drafts
    ∙ drafts_long (listing_of file) (applied_of file) (limited_records file now) (flat_map results_of (run_values now))
    (limited_results file now h.current_records)
    ∙ limited_long file (records_of now)

pub current_side : (v : MatchingVersion) (file : File) (now before : List Placed) (c : Half) (b : Baselines) (s : Side) → AreTogether file now before c b
    → ArePartsOf own_count s.runs.items (run_values now) → AllByRecursion IsWholeRun s.runs.items
    → s.drafts.items ≡ c.drafts.items → s.states.items ≡ map Some (states_of v (map unadmitted c.records.items) b.records.items)
    → IsSide s
current_side v file now before c b s h parts whole drafts states =
    let many = current_long file now before c b h in record {
      whole = whole;
      drafts = ap length drafts ∙ many ∙ h.current_records ∙ sym (own_total s.runs.items (run_values now) parts);
      states =
          ap length states ∙ length-map (states_of v (map unadmitted c.records.items) b.records.items) Some
          ∙ states_long v b.records.items (partners_in v (map unadmitted c.records.items) b.records.items) 0 (map unadmitted c.records.items)
          ∙ ap length (matched_records file now c h.is_current) ∙ sym many ∙ sym (ap length drafts);
    }

-- ---- what is left of baselines

pub baseline_long : (before : List Placed) (b : Baselines) → AreBaselines before b → length (baseline_drafts before) ≡ length (records_of before)
baseline_long before b h = drafts_long (λ _ own. own) unapplied (records_of before) (present_results (run_values before)) h.count

pub few_left : {X : Type 0} (taken : List Bool) (xs : List X) → length (not_taken taken xs) ≤ length xs
few_left [] [] = omega arith
few_left [] (x ∷ xs) = omega arith
few_left (t ∷ taken) [] = omega arith
few_left (true ∷ taken) (x ∷ xs) = let rest = few_left taken xs in omega (arith, rest)
few_left (false ∷ taken) (x ∷ xs) = let rest = few_left taken xs in omega (arith, rest)

pub left_few : (before : List Placed) (b : Baselines) (taken : List Bool) (t : Side) → AreBaselines before b → IsLeft before taken t
    → length t.drafts.items ≤ length (records_of before)
left_few before b taken t h left =
    let fewer = few_left taken (baseline_drafts before) in
    let same = ap length left.drafts in
    let all = baseline_long before b h in
    omega (arith, fewer, same, all)

pub left_is_side : (before : List Placed) (b : Baselines) (taken : List Bool) (t : Side) → AreBaselines before b → IsLeft before taken t
    → length taken ≡ length (records_of before) → IsSide t
left_is_side before b taken t h left same = record {
  whole = left.whole;
  drafts =
      ap length left.drafts
      ∙ long taken (baseline_drafts before) taken (baseline_long before b h ∙ sym same) refl
      ∙ sym (left_total t.runs.items taken (run_values before) left.parts (same ∙ h.count));
  states = ap length left.states ∙ length-map t.drafts.items (λ _. Some Absent);
}

-- ---- the log

current_texts : (v : MatchingVersion) (file : File) (now before : List Placed) (c : Half) (b : Baselines) (s : Side) → AreTogether file now before c b
    → ArePartsOf own_count s.runs.items (run_values now)
    → s.drafts.items ≡ c.drafts.items → s.states.items ≡ map Some (states_of v (records_of now) (records_of before))
    → runs_texts s.runs.items s.drafts.items s.states.items ≡ map compact_text (current_runs v file now before)
current_texts v file now before c b s h parts drafts states =
    ap (λ ds. runs_texts s.runs.items ds s.states.items) (drafts ∙ h.is_current.drafts)
    ∙ ap (runs_texts s.runs.items (drafts_by (listing_of file) (applied_of file) (limited_records file now) (flat_map results_of (run_values now)))) states
    ∙ runs_written (listing_of file) (applied_of file) (limited_records file now) (states_of v (records_of now) (records_of before)) s.runs.items (run_values now)
    h.current_are_runs parts (limited_total file now h.current_records)
    (states_long v (records_of before) (partners_in v (records_of now) (records_of before)) 0 (records_of now) ∙ sym (limited_long file (records_of now)))

baseline_texts : (v : MatchingVersion) (file : File) (now before : List Placed) (c : Half) (b : Baselines) (t : Side) → AreTogether file now before c b
    → IsLeft before (taken_of v (records_of now) (records_of before)) t
    → left_texts t.runs.items t.drafts.items t.states.items ≡ map compact_text (leftover_runs v now before)
baseline_texts v file now before c b t h left =
    let taken = taken_of v (records_of now) (records_of before) in
    let ds = baseline_drafts before in
    let taken_all = taken_long v (records_of now) (records_of before) in
    ap (left_texts t.runs.items t.drafts.items) left.states
    ∙ ap (λ es. left_texts t.runs.items es (map (λ _. Some Absent) es)) left.drafts
    ∙ left_written (records_of before) taken t.runs.items (run_values before) ds h.baseline_are_runs left.parts h.are_baselines.count taken_all refl
    (baseline_long before b h.are_baselines ∙ sym taken_all)

current_counts : (v : MatchingVersion) (file : File) (now before : List Placed) (c : Half) (b : Baselines) (s : Side) (x : State) (l : Level) (y : Bool)
    → AreTogether file now before c b
    → s.drafts.items ≡ c.drafts.items → s.states.items ≡ map Some (states_of v (records_of now) (records_of before))
    → tallied s.drafts.items s.states.items x l y ≡ count_of (current_runs v file now before) x l y
current_counts v file now before c b s x l y h drafts states =
    ap (λ ds. tallied ds s.states.items x l y) (drafts ∙ h.is_current.drafts)
    ∙ ap (λ ss. tallied (drafts_by (listing_of file) (applied_of file) (limited_records file now) (flat_map results_of (run_values now))) ss x l y) states
    ∙ runs_count (listing_of file) (applied_of file) (limited_records file now) (states_of v (records_of now) (records_of before)) (run_values now) x l y
    h.current_are_runs (limited_total file now h.current_records)
    (states_long v (records_of before) (partners_in v (records_of now) (records_of before)) 0 (records_of now) ∙ sym (limited_long file (records_of now)))

baseline_counts : (v : MatchingVersion) (file : File) (now before : List Placed) (c : Half) (b : Baselines) (t : Side) (x : State) (l : Level) (y : Bool)
    → AreTogether file now before c b
    → IsLeft before (taken_of v (records_of now) (records_of before)) t
    → tallied t.drafts.items t.states.items x l y ≡ count_of (leftover_runs v now before) x l y
baseline_counts v file now before c b t x l y h left =
    let taken = taken_of v (records_of now) (records_of before) in
    let taken_all = taken_long v (records_of now) (records_of before) in
    ap (λ ss. tallied t.drafts.items ss x l y) left.states
    ∙ ap (λ es. tallied es (map (λ _. Some Absent) es) x l y) left.drafts
    ∙ counts taken (baseline_drafts before) x l y (baseline_long before b h.are_baselines ∙ sym taken_all)
    ∙ left_count (records_of before) taken (run_values before) x l y h.baseline_are_runs h.are_baselines.count taken_all

pub written : (v : MatchingVersion) (file : File) (now before : List Placed) (c : Half) (b : Baselines) (s t : Side) → AreTogether file now before c b
    → ArePartsOf own_count s.runs.items (run_values now)
    → s.drafts.items ≡ c.drafts.items → s.states.items ≡ map Some (states_of v (map unadmitted c.records.items) b.records.items)
    → IsLeft before (taken_of v (records_of now) (records_of before)) t
    → AreWritten s t (runs_by v file now before)
written v file now before c b s t h parts drafts states left =
    let told =
    states ∙ ap (λ rs. map Some (states_of v rs b.records.items)) (matched_records file now c h.is_current)
    ∙ ap (λ rs. map Some (states_of v (records_of now) rs)) h.are_baselines.records in record {
      texts =
          map-append compact_text (current_runs v file now before) (leftover_runs v now before)
          ∙ ap (λ ts. ts ++ map compact_text (leftover_runs v now before)) (sym (current_texts v file now before c b s h parts drafts told))
          ∙ ap (λ ts. runs_texts s.runs.items s.drafts.items s.states.items ++ ts) (sym (baseline_texts v file now before c b t h left));
      counts = λ x l y.
          ap (λ n. n + tallied t.drafts.items t.states.items x l y) (current_counts v file now before c b s x l y h drafts told)
          ∙ ap (λ n. count_of (current_runs v file now before) x l y + n) (baseline_counts v file now before c b t x l y h left)
          ∙ sym (count_of-append (current_runs v file now before) (leftover_runs v now before) x l y);
    }

pub together : (file : File) (current baseline : Judged) (c : Half) (b : Baselines) → IsJudged file false current → IsJudged file true baseline
    → IsFound file (placed_in current) c → AreBaselines (placed_in baseline) b → AreFound file (placed_in current) (placed_in baseline) c b
together file current baseline c b j k is_c are_b =
    let now = placed_in current in
    let before = placed_in baseline in
    let records = records_of_logs now j.faultless j.sources in
    let present = few_present (run_values before) in record {
      is_current = is_c;
      are_baselines = are_b;
      current_are_runs = j.objects;
      baseline_are_runs = k.objects;
      current_records = records;
      few_runs = j.few_runs;
      few_current = omega (arith, records, j.few_results);
      few_baseline = omega (arith, are_b.count, present, k.few_results);
    }
