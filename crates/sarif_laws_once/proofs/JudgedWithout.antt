-- The conditions of a policy see the findings as they see all results, without the copies among these.
use Rattle.std.proofs.Common.{◌≡◌, Bool, true, false, not, List, [], ◌++◌, map, length, Option, Some, None, sym, ap, ap₂, ◌∙◌, refl}
use Rattle.std.proofs.lemmas.List.{length-map}
use Rattle.std.specs.Prelude.{◌&&◌}
use Rattle.std.specs.List.{AllByRecursion, flat_map, list_any}
use Rattle.serde_json.specs.Data.{Data}
use Rattle.sarif_accept.specs.Heard.{heard_of}
use Rattle.sarif_accept.specs.declared.heard.ToolRun.{ToolRun}
use Rattle.sarif_change.specs.declared.spots.Scope.{Scope}
use Rattle.sarif_change.specs.declared.spots.Scope.TheVariants.{Lines, Files}
use Rattle.sarif_copies.specs.Copies.{copies_of}
use Rattle.sarif_deciding.specs.Asked.{asks_scope, ratchets, rates}
use Rattle.sarif_deciding.specs.Matched.{Matched}
use Rattle.sarif_deciding.specs.Present.{all_present}
use Rattle.sarif_deciding.specs.Results.{absent_ratings, absent_results, absent_seen, active_of, current_ratings, current_results, current_seen, for_each, gone_in, inside_by, inside_in, is_gone_by, judged_all, results_in, seen_all}
use Rattle.sarif_deciding.proofs.Lengths.{current_rated_long, current_seen_long, each_long as for_each_long, inside_long}
use Rattle.sarif_deciding.proofs.SideBySide.{seen_long}
use Rattle.sarif_deciding.proofs.Unmarked.{unmarked_long}
use Rattle.sarif_entries.specs.File.{File}
use Rattle.sarif_entries.specs.Matching.{hold}
use Rattle.sarif_entries.specs.declared.entry.Entry.{Entry}
use Rattle.sarif_evidence.specs.declared.version.MatchingVersion.{MatchingVersion}
use Rattle.sarif_log.specs.LogBy.{listing_of, states_of, taken_of}
use Rattle.sarif_log.proofs.Sides.{drafts_long, records_present, states_long, taken_long}
use Rattle.sarif_match.specs.Partners.{partners_in}
use Rattle.sarif_model.specs.Run.{present, results_of}
use Rattle.sarif_model.specs.declared.kinds.State.TheVariants.{Absent, New}
use Rattle.sarif_model.specs.declared.record.Record.{Record}
use Rattle.sarif_once.proofs.Marks.{findings_left, marked_each}
use Rattle.sarif_once.proofs.Spread.{spread_found, spread_long}
use Rattle.sarif_once.specs.Once.{copy_marks, without_copies}
use Rattle.sarif_outside.specs.Marks.{both, in_scope, is_outside_at}
use Rattle.sarif_policy.specs.declared.condition.GateCondition.{GateCondition}
use Rattle.sarif_policy.specs.declared.rating.Rating.TheVariants.{Missing}
use Rattle.sarif_policy.specs.declared.rating.Rating.{Rating}
use Rattle.sarif_prepare.proofs.CopyDrafts.{all_found, as_many, found_before, found_drafts, marks_of_logs}
use Rattle.sarif_prepare.proofs.Limits.{each_long, once_left, once_long}
use Rattle.sarif_prepare.specs.Internal.Leftover.{found_at}
use Rattle.sarif_prepare.specs.Internal.Telling.{pair_at}
use Rattle.sarif_prepare.specs.Once.{admitted_once, findings_only, limited_once, states_once, taken_once}
use Rattle.sarif_prepare.specs.Ruled.{drafts_before, matched_in}
use Rattle.sarif_ratings.specs.Ratings.{rating_at, rating_in}
use Rattle.sarif_read.proofs.Only.{unmarked_map}
use Rattle.sarif_read.specs.Unmarked.{unmarked, without_marked}
use Rattle.sarif_results.specs.Drafts.{applied_of, drafts_by, unapplied}
use Rattle.sarif_results.specs.declared.draft.Draft.{Draft}
use Rattle.sarif_runs.specs.Internal.Spots.{spots_from}
use Rattle.sarif_runs.specs.Judging.{faults_of_runs, records_of, run_values, skips}
use Rattle.sarif_runs.specs.Placed.{Placed}
use Rattle.sarif_scope.specs.Inside.{is_outside_of}
use Rattle.sarif_scope.specs.declared.gated.GatedChange.{GatedChange}
use Rattle.sarif_suppress.specs.Limited.{limited}
use Rattle.sarif_laws_once.proofs.PairsWithout.{outside_without, places_left, present_long, present_pairs_left, rated_without, tools_without}
use Rattle.sarif_laws_once.proofs.PresentLeft.{present_are_left}
use Rattle.sarif_laws_once.proofs.SeenWithout.{both_left, if_left, if_long, judged_left, seen_left, untaken_left}

abbrev rated : Data × Data → Rating
rated found = rating_in found.0 found.1

-- this value once for each of the results that are left
each_left : {X : Type 0} (x : X) (ms : List Bool) (drafts found : List Draft) → found ≡ unmarked ms drafts
    → for_each x found ≡ unmarked ms (for_each x drafts)
each_left x ms drafts found is = ap (for_each x) is ∙ sym (unmarked_map (λ _. x) ms drafts)

module _ (v : MatchingVersion) (file : File) (change : Option GatedChange) (now before : List Placed)
    (sound_now : faults_of_runs now ≡ []) (sound_before : faults_of_runs before ≡ [])
    (logs : AllByRecursion (λ p. skips p.source ≡ false) now) (baselines : AllByRecursion (λ p. skips p.source ≡ true) before)
    (cs : List GateCondition) where
  abbrev rs : List Record
  rs = records_of now

  abbrev bs : List Record
  bs = records_of before

  abbrev ms : List Bool
  ms = copies_of rs

  abbrev ns : List Bool
  ns = copies_of bs

  abbrev taken : List Bool
  taken = taken_once v rs bs

  -- all results, and the findings
  abbrev all : Matched
  all = record {
    file = file;
    change = change;
    runs = now;
    records = limited_once file rs;
    states = states_once v rs bs;
    drafts = drafts_by (listing_of file) (applied_of file) (limited_once file rs) (flat_map results_of (run_values now));
    before = before;
    known = bs;
    taken = taken;
    left = unmarked taken (drafts_before before);
  }

  abbrev found : Matched
  found = matched_in v file change (without_copies now) (without_copies before)

  -- ---- how many there are

  records_many : length all.records ≡ length rs
  records_many = each_long rs (admitted_once file rs) (once_long file rs)

  results_many : length (flat_map results_of (run_values now)) ≡ length rs
  results_many = as_many file now sound_now logs

  drafts_many : length all.drafts ≡ length rs
  drafts_many =
      drafts_long (listing_of file) (applied_of file) (limited_once file rs) (flat_map results_of (run_values now)) (records_many ∙ sym results_many)
      ∙ records_many

  states_many : length all.states ≡ length rs
  states_many = spread_long New rs (states_of v (findings_only rs) (findings_only bs))

  drafts_spots : length all.drafts ≡ length (spots_from 0 now)
  drafts_spots = drafts_many ∙ sym results_many ∙ ap length (sym (all_found now)) ∙ length-map (spots_from 0 now) (found_at now)

  seen_many : length (current_seen cs all) ≡ length rs
  seen_many = current_seen_long cs all drafts_spots ∙ drafts_many

  -- ---- current results

  records_left : found.records ≡ unmarked ms all.records
  records_left = ap (limited file) (findings_left now) ∙ sym (once_left file rs)

  states_left : found.states ≡ unmarked ms all.states
  states_left =
      let given = states_of v (findings_only rs) (findings_only bs) in
      let many = states_long v (findings_only bs) (partners_in v (findings_only rs) (findings_only bs)) 0 (findings_only rs) in
      ap₂ (states_of v) (findings_left now) (findings_left before) ∙ sym (spread_found New rs given many)

  drafts_left : found.drafts ≡ unmarked ms all.drafts
  drafts_left = found_drafts file now sound_now logs

  by_place : {Y : Type 0} (of : Data × Data → Y) → ((marks : List Bool) (run d : Data) → of (without_marked marks run, d) ≡ of (run, d))
      → map (λ spot. of (pair_at (without_copies now) spot)) (spots_from 0 (without_copies now))
      ≡ unmarked ms (map (λ spot. of (pair_at now spot)) (spots_from 0 now))
  by_place of same =
      places_left of same (copy_marks now) now
      ∙ ap (λ marks. unmarked marks (map (λ spot. of (pair_at now spot)) (spots_from 0 now))) (marks_of_logs file now sound_now logs)

  ratings_left : current_ratings cs found ≡ unmarked ms (current_ratings cs all)
  ratings_left =
      if_left ms (rates cs) (map (rating_at now) (spots_from 0 now)) (for_each Missing all.drafts)
      (map (rating_at (without_copies now)) (spots_from 0 (without_copies now))) (for_each Missing found.drafts)
      (by_place rated rated_without) (each_left Missing ms all.drafts found.drafts drafts_left)

  active_left : active_of found.drafts ≡ unmarked ms (active_of all.drafts)
  active_left = ap active_of drafts_left ∙ sym (unmarked_map (λ draft. not draft.suppressed) ms all.drafts)

  outside_left : (c : GatedChange)
      → both (active_of found.drafts) (map (is_outside_at c (without_copies now)) (spots_from 0 (without_copies now)))
      ≡ unmarked ms (both (active_of all.drafts) (map (is_outside_at c now) (spots_from 0 now)))
  outside_left c =
      ap₂ both active_left (by_place (λ pair. is_outside_of c pair.0 pair.1) (outside_without c))
      ∙ both_left ms (active_of all.drafts) (map (is_outside_at c now) (spots_from 0 now))
      (length-map (spots_from 0 now) (is_outside_at c now) ∙ sym drafts_spots ∙ sym (length-map all.drafts (λ draft. not draft.suppressed)))

  by_left : (scope : Scope) (c : Option GatedChange)
      → inside_by scope c (without_copies now) found.drafts ≡ unmarked ms (inside_by scope c now all.drafts)
  by_left scope None = each_left true ms all.drafts found.drafts drafts_left
  by_left scope (Some c) =
      ap (map not) (outside_left (in_scope scope c))
      ∙ sym (unmarked_map not ms (both (active_of all.drafts) (map (is_outside_at (in_scope scope c) now) (spots_from 0 now))))

  inside_left : (scope : Scope) → inside_in scope cs found ≡ unmarked ms (inside_in scope cs all)
  inside_left scope =
      if_left ms (asks_scope scope cs) (inside_by scope change now all.drafts) (for_each true all.drafts)
      (inside_by scope change (without_copies now) found.drafts) (for_each true found.drafts)
      (by_left scope change) (each_left true ms all.drafts found.drafts drafts_left)

  current_seen_left : current_seen cs found ≡ unmarked ms (current_seen cs all)
  current_seen_left =
      let ratings = current_rated_long cs all drafts_spots in
      (λ i. seen_all (ratings_left i) (inside_left Lines i) (inside_left Files i) (each_left false ms all.drafts found.drafts drafts_left i))
      ∙ seen_left ms (current_ratings cs all) (inside_in Lines cs all) (inside_in Files cs all) (for_each false all.drafts)
      (inside_long cs all drafts_spots Lines ∙ sym ratings) (inside_long cs all drafts_spots Files ∙ sym ratings)
      (for_each_long false all.drafts ∙ sym ratings)

  pub current_left : current_results cs found ≡ unmarked ms (current_results cs all)
  current_left =
      (λ i. judged_all (records_left i) (states_left i) (drafts_left i) (current_seen_left i))
      ∙ judged_left ms all.records all.states all.drafts (current_seen cs all) (states_many ∙ sym records_many) (drafts_many ∙ sym records_many)
      (seen_many ∙ sym records_many)

  -- ---- absent results

  -- the marks of the absent ones
  abbrev us : List Bool
  us = unmarked taken ns

  taken_many : length taken ≡ length bs
  taken_many = spread_long false bs (taken_of v (findings_only rs) (findings_only bs))

  taken_left : found.taken ≡ unmarked ns taken
  taken_left =
      ap₂ (taken_of v) (findings_left now) (findings_left before)
      ∙ sym (spread_found false bs (taken_of v (findings_only rs) (findings_only bs)) (taken_long v (findings_only rs) (findings_only bs)))

  untaken : {X : Type 0} (xs others : List X) → length xs ≡ length bs → others ≡ unmarked ns xs
      → unmarked found.taken others ≡ unmarked us (unmarked taken xs)
  untaken xs others many is =
      ap₂ (λ ts zs. unmarked ts zs) taken_left is ∙ untaken_left taken ns xs (taken_many ∙ sym many) (marked_each bs ∙ sym many)

  olds_many : length (drafts_before before) ≡ length bs
  olds_many = drafts_long (λ _ own. own) unapplied bs (flat_map (λ run. present (results_of run)) (run_values before)) (records_present before sound_before baselines)

  present_many : length (all_present before) ≡ length bs
  present_many = present_long (run_values before) ∙ sym (records_present before sound_before baselines)

  left_left : found.left ≡ unmarked us all.left
  left_left = untaken (drafts_before before) (drafts_before (without_copies before)) olds_many (found_before before sound_before baselines)

  known_left : unmarked found.taken found.known ≡ unmarked us (unmarked taken bs)
  known_left = untaken bs found.known refl (findings_left before)

  rated_before : map rated (all_present (without_copies before)) ≡ unmarked ns (map rated (all_present before))
  rated_before = present_pairs_left rated rated_without ns (copy_marks before) before (present_are_left ns before (marked_each bs) sound_before baselines)

  rated_many : length (map rated (all_present before)) ≡ length bs
  rated_many = length-map (all_present before) rated ∙ present_many

  ratings_before : absent_ratings cs found ≡ unmarked us (absent_ratings cs all)
  ratings_before =
      if_left us (rates cs) (unmarked taken (map rated (all_present before))) (for_each Missing all.left)
      (unmarked found.taken (map rated (all_present (without_copies before)))) (for_each Missing found.left)
      (untaken (map rated (all_present before)) (map rated (all_present (without_copies before))) rated_many rated_before)
      (each_left Missing us all.left found.left left_left)

  gone_same : (r : Record) → is_gone_by file (without_copies now) r ≡ is_gone_by file now r
  gone_same r =
      ap (λ (tools : List ToolRun). heard_of tools (Some r.tool) && not (list_any (λ (e : Entry). hold e.conditions r) file.entries))
      (tools_without (copy_marks now) now)

  gone_left : gone_in cs found ≡ unmarked us (gone_in cs all)
  gone_left =
      if_left us (ratchets cs) (map (is_gone_by file now) (unmarked taken bs)) (for_each false all.left)
      (map (is_gone_by file (without_copies now)) (unmarked found.taken found.known)) (for_each false found.left)
      (ap (λ (gone : Record → Bool). map gone (unmarked found.taken found.known)) (λ i r. gone_same r i)
      ∙ ap (map (is_gone_by file now)) known_left
      ∙ sym (unmarked_map (is_gone_by file now) us (unmarked taken bs)))
      (each_left false us all.left found.left left_left)

  -- as many are left of each list
  known_many : length (unmarked taken bs) ≡ length all.left
  known_many = unmarked_long taken bs (drafts_before before) (sym olds_many)

  ratings_many : length (absent_ratings cs all) ≡ length all.left
  ratings_many =
      if_long (rates cs) (unmarked taken (map rated (all_present before))) (for_each Missing all.left) all.left
      (unmarked_long taken (map rated (all_present before)) (drafts_before before) (rated_many ∙ sym olds_many)) (for_each_long Missing all.left)

  gone_many : length (gone_in cs all) ≡ length all.left
  gone_many =
      if_long (ratchets cs) (map (is_gone_by file now) (unmarked taken bs)) (for_each false all.left) all.left
      (length-map (unmarked taken bs) (is_gone_by file now) ∙ known_many) (for_each_long false all.left)

  none_many : length (for_each false all.left) ≡ length (absent_ratings cs all)
  none_many = for_each_long false all.left ∙ sym ratings_many

  absent_seen_many : length (absent_seen cs all) ≡ length all.left
  absent_seen_many =
      seen_long (absent_ratings cs all) (for_each false all.left) (for_each false all.left) (gone_in cs all) none_many none_many (gone_many ∙ sym ratings_many)
      ∙ ratings_many

  absent_seen_left : absent_seen cs found ≡ unmarked us (absent_seen cs all)
  absent_seen_left =
      let none = each_left false us all.left found.left left_left in
      (λ i. seen_all (ratings_before i) (none i) (none i) (gone_left i))
      ∙ seen_left us (absent_ratings cs all) (for_each false all.left) (for_each false all.left) (gone_in cs all) none_many none_many
      (gone_many ∙ sym ratings_many)

  absent_left : absent_results cs found ≡ unmarked us (absent_results cs all)
  absent_left =
      (λ i. judged_all (known_left i) (each_left Absent us all.left found.left left_left i) (left_left i) (absent_seen_left i))
      ∙ judged_left us (unmarked taken bs) (for_each Absent all.left) all.left (absent_seen cs all)
      (for_each_long Absent all.left ∙ sym known_many) (sym known_many) (absent_seen_many ∙ sym known_many)

  -- ---- both

  pub results_left : results_in cs found ≡ unmarked ms (current_results cs all) ++ unmarked us (absent_results cs all)
  results_left = ap₂ (λ xs ys. xs ++ ys) current_left absent_left
