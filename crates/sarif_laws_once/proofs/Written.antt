-- How many results the runs of a merged log have, and how many of them are counted.
use Rattle.std.proofs.Common.{◌≡◌, ◌+◌, ◌++◌, suc, Bool, true, false, List, [], ◌∷◌, Option, Some, None, map, take, drop, length, codes, refl, sym, ap, ◌∙◌, arith}
use Rattle.std.specs.Prelude.{option_and_then}
use Rattle.std.specs.List.{AllByRecursion, flat_map}
use Rattle.std.proofs.lemmas.List.{length-append, length-drop, length-take-le}
use Rattle.serde_json.specs.Data.{Data, null, boolean, number, string, array, object, Items, Members}
use Rattle.serde_json.specs.Find.{as_array}
use Rattle.serde_json.specs.View.{items_of}
use Rattle.serde_json.proofs.Views.{get_member-put}
use Rattle.json_parts.specs.Without.{without}
use Rattle.sarif_model.specs.declared.kinds.State.{State}
use Rattle.sarif_model.specs.declared.record.Record.{Record}
use Rattle.sarif_model.specs.Members.{elements}
use Rattle.sarif_model.specs.Run.{elements_or_none, present, results_of, results_total}
use Rattle.sarif_model.proofs.Elements.{items_back}
use Rattle.sarif_entries.specs.File.{File}
use Rattle.sarif_suppress.specs.Limited.{limited}
use Rattle.sarif_counts.specs.CountOf.{count_of}
use Rattle.sarif_counts.proofs.CountAppend.{count_of-append}
use Rattle.sarif_evidence.specs.declared.version.MatchingVersion.{MatchingVersion}
use Rattle.sarif_match.specs.Partners.{partners_in}
use Rattle.sarif_runs.specs.Judging.{faults_of_runs, records_of, run_values, skips}
use Rattle.sarif_runs.specs.Placed.{Placed}
use Rattle.sarif_results.specs.Drafts.{applied_of, drafts_by, unapplied, IsObject, IsRun, Listing}
use Rattle.sarif_results.proofs.JudgedCounts.{records_of_logs}
use Rattle.sarif_log.specs.Internal.Texts.{present_results, tallied, unless_taken}
use Rattle.sarif_log.specs.LogBy.{current_runs, leftover_runs, listing_of, runs_by, states_of, taken_of}
use Rattle.sarif_log.specs.MergedRuns.{absent_runs, annotated_items, bare, if_any, merged_run, merged_runs, own_results, unmatched, with_results, written_all}
use Rattle.sarif_log.proofs.Limits.{limited_long}
use Rattle.sarif_log.proofs.RunCounts.{left_count, runs_count}
use Rattle.sarif_log.proofs.RunResults.{still_out, taken_out}
use Rattle.sarif_log.proofs.Sides.{drafts_long, records_present, results_long, states_long, taken_long}
use Rattle.sarif_laws_once.specs.Totals.{results_counted}
use Rattle.sarif_laws_once.proofs.Apart.{unset_in, unset_split}
use Rattle.sarif_laws_once.proofs.Numbers.{all_tallied, counted_add, counted_same, left_tallied}

pub total_joined : (runs more : List Data) → results_total (runs ++ more) ≡ results_total runs + results_total more
total_joined [] more = omega arith
total_joined (run ∷ runs) more = let rest = total_joined runs more in omega (arith, rest)

-- ---- a run with its results

pub put_long : (ds : List Data) (ms : Members) → length (results_of (object (with_results (Some (items_of ds)) ms))) ≡ length ds
put_long ds ms =
    ap (λ found. length (elements_or_none (option_and_then as_array found))) (get_member-put (codes "results") (array (items_of ds)) ms)
    ∙ ap length (items_back ds)

none_long : (ms : Members) → length (results_of (object (bare ms))) ≡ 0
none_long ms =
    ap (λ found. length (elements_or_none (option_and_then as_array found)))
    (still_out (codes "results") (codes "baselineGuid") (without (codes "results") ms) (taken_out (codes "results") ms))

all_written : (listed : Listing) (rs : List Record) (ss : List State) (ds : List Data) → length (written_all listed rs ss ds) ≡ length ds
all_written listed [] ss ds = refl
all_written listed (r ∷ rs) [] ds = refl
all_written listed (r ∷ rs) (s ∷ ss) [] = refl
all_written listed (r ∷ rs) (s ∷ ss) (d ∷ ds) = ap suc (all_written listed rs ss ds)

found_long : (listed : Listing) (rs : List Record) (ss : List State) (found : Option Items) (ms : Members)
    → length (results_of (object (with_results (annotated_items listed rs ss found) (bare ms)))) ≡ length (elements_or_none found)
found_long listed rs ss None ms = none_long ms
found_long listed rs ss (Some ds) ms =
    put_long (written_all listed rs ss (elements ds)) (bare ms) ∙ all_written listed rs ss (elements ds)

pub run_long : (listed : Listing) (rs : List Record) (ss : List State) (run : Data) → IsObject run
    → length (results_of (merged_run listed rs ss run)) ≡ length (results_of run)
run_long listed rs ss null is = absurd is
run_long listed rs ss (boolean b) is = absurd is
run_long listed rs ss (number n) is = absurd is
run_long listed rs ss (string t) is = absurd is
run_long listed rs ss (array ds) is = absurd is
run_long listed rs ss (object ms) is = found_long listed rs ss (own_results ms) ms

-- each input run has all its results
pub merged_long : (listed : Listing) (rs : List Record) (ss : List State) (runs : List Data) → AllByRecursion IsRun runs
    → results_total (merged_runs listed rs ss runs) ≡ results_total runs
merged_long listed rs ss [] are = refl
merged_long listed rs ss (run ∷ runs) are =
    let n = length (results_of run) in
    let here = run_long listed (take n rs) (take n ss) run are.0.0 in
    let rest = merged_long listed (drop n rs) (drop n ss) runs are.1 in
    omega (arith, here, rest)

-- ---- what is left of a run

pub left_long : (rs : List Record) (taken : List Bool) (ds : List Data) → length rs ≡ length ds → length taken ≡ length ds
    → length (unmatched rs taken ds) ≡ unset_in taken
left_long [] [] [] same_r same_t = refl
left_long [] (t ∷ taken) [] same_r same_t = absurd (omega (arith, same_t))
left_long [] taken (d ∷ ds) same_r same_t = absurd (omega (arith, same_r))
left_long (r ∷ rs) taken [] same_r same_t = absurd (omega (arith, same_r))
left_long (r ∷ rs) [] (d ∷ ds) same_r same_t = absurd (omega (arith, same_t))
left_long (r ∷ rs) (true ∷ taken) (d ∷ ds) same_r same_t = left_long rs taken ds (omega (arith, same_r)) (omega (arith, same_t))
left_long (r ∷ rs) (false ∷ taken) (d ∷ ds) same_r same_t =
    let rest = left_long rs taken ds (omega (arith, same_r)) (omega (arith, same_t)) in omega (arith, rest)

kept_long : (ds : List Data) (run : Data) (more : List Data) → IsObject run → results_total (if_any ds run more) ≡ length ds + results_total more
kept_long [] run more is = omega arith
kept_long (d ∷ ds) null more is = absurd is
kept_long (d ∷ ds) (boolean b) more is = absurd is
kept_long (d ∷ ds) (number n) more is = absurd is
kept_long (d ∷ ds) (string t) more is = absurd is
kept_long (d ∷ ds) (array es) more is = absurd is
kept_long (d ∷ ds) (object ms) more is = ap (λ n. n + results_total more) (put_long (d ∷ ds) (bare ms))

-- the baseline runs have the results that aren't matched
pub absent_long : (rs : List Record) (taken : List Bool) (runs : List Data) → AllByRecursion IsRun runs
    → length rs ≡ length (present_results runs) → length taken ≡ length rs → results_total (absent_runs rs taken runs) ≡ unset_in taken
absent_long rs [] [] are same_r same_t = refl
absent_long rs (t ∷ taken) [] are same_r same_t = absurd (omega (arith, same_r, same_t))
absent_long rs taken (run ∷ runs) are same_r same_t =
    let ds = present (results_of run) in
    let n = length ds in
    let long = length-append ds (present_results runs) in
    let kept = unmatched (take n rs) (take n taken) ds in
    let left =
    left_long (take n rs) (take n taken) ds (length-take-le n rs (omega (arith, same_r, long)))
    (length-take-le n taken (omega (arith, same_r, same_t, long))) in
    let here = kept_long kept run (absent_runs (drop n rs) (drop n taken) runs) are.0.0 in
    let rest =
    absent_long (drop n rs) (drop n taken) runs are.1 (omega (arith, length-drop n rs, same_r, long))
    (omega (arith, length-drop n rs, length-drop n taken, same_t)) in
    let all = unset_split n taken in
    omega (arith, left, here, rest, all)

-- ---- what is counted

counted_joined : (runs more : List Data)
    → results_counted (count_of (runs ++ more)) ≡ results_counted (count_of runs) + results_counted (count_of more)
counted_joined runs more =
    counted_same (count_of (runs ++ more)) (λ s l b. count_of runs s l b + count_of more s l b) (count_of-append runs more)
    ∙ counted_add (count_of runs) (count_of more)

module _ (v : MatchingVersion) (file : File) (now before : List Placed)
    (are_now : AllByRecursion IsRun (run_values now)) (are_before : AllByRecursion IsRun (run_values before))
    (sound_now : faults_of_runs now ≡ []) (sound_before : faults_of_runs before ≡ [])
    (logs : AllByRecursion (λ p. skips p.source ≡ false) now) (baselines : AllByRecursion (λ p. skips p.source ≡ true) before) where
  abbrev cs : List Record
  cs = records_of now

  abbrev bs : List Record
  bs = records_of before

  counted_now : results_counted (count_of (current_runs v file now before)) ≡ length cs
  counted_now =
      let runs = run_values now in
      let ss = states_of v cs bs in
      let rs = limited file cs in
      let ds = drafts_by (listing_of file) (applied_of file) rs (flat_map results_of runs) in
      let long : length rs ≡ length cs = limited_long file cs in
      let records : length rs ≡ results_total runs = long ∙ records_of_logs now sound_now logs in
      let states : length ss ≡ length rs = states_long v bs (partners_in v cs bs) 0 cs ∙ sym long in
      let drafts : length ds ≡ length rs =
      drafts_long (listing_of file) (applied_of file) rs (flat_map results_of runs) (records ∙ sym (results_long runs)) in
      counted_same (count_of (current_runs v file now before)) (tallied ds (map Some ss))
      (λ s l b. sym (runs_count (listing_of file) (applied_of file) rs ss runs s l b are_now records states))
      ∙ all_tallied ds ss (states ∙ sym drafts) ∙ drafts ∙ long

  counted_before : results_counted (count_of (leftover_runs v now before)) ≡ unset_in (taken_of v cs bs)
  counted_before =
      let runs = run_values before in
      let ts = taken_of v cs bs in
      let ds = drafts_by (λ _ own. own) unapplied bs (present_results runs) in
      let records : length bs ≡ length (present_results runs) = records_present before sound_before baselines in
      let taken : length ts ≡ length bs = taken_long v cs bs in
      let drafts : length ds ≡ length bs = drafts_long (λ _ own. own) unapplied bs (present_results runs) records in
      counted_same (count_of (leftover_runs v now before)) (tallied ds (map unless_taken ts))
      (λ s l b. sym (left_count bs ts runs s l b are_before records taken))
      ∙ left_tallied ds ts (taken ∙ sym drafts)

  -- each current result is counted once, and each baseline result that isn't matched
  pub counted_all : results_counted (count_of (runs_by v file now before)) ≡ length cs + unset_in (taken_of v cs bs)
  counted_all =
      counted_joined (current_runs v file now before) (leftover_runs v now before)
      ∙ ap (λ n. n + results_counted (count_of (leftover_runs v now before))) counted_now
      ∙ ap (λ n. length cs + n) counted_before
