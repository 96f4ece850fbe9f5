-- What a policy reads about both sides is the merge of their runs.
use Rattle.std.proofs.Common.{◌≡◌, ◌≤◌, List, [], ◌∷◌, Some, map, length, refl, sym, ap, subst, ◌∙◌}
use Rattle.std.proofs.lemmas.List.{length-map}
use Rattle.std.specs.List.{All}
use Rattle.std.specs.Prelude.{option_map}
use Rattle.sarif_deciding.specs.Merge.{matched_of, runs_before, runs_in, state_in, AreCurrent, AreLeft}
use Rattle.sarif_deciding.specs.Present.{all_present, pair_at}
use Rattle.sarif_deciding.specs.declared.merge.CurrentResults.{CurrentResults}
use Rattle.sarif_deciding.specs.declared.merge.LeftResults.{LeftResults}
use Rattle.sarif_deciding.specs.declared.merge.MatchedMerge.{MatchedMerge}
use Rattle.sarif_entries.specs.File.{File}
use Rattle.sarif_evidence.specs.declared.version.MatchingVersion.{MatchingVersion}
use Rattle.sarif_log.proofs.Limits.{limited_long}
use Rattle.sarif_log.proofs.Sides.{taken_long}
use Rattle.sarif_log.specs.LogBy.{states_of, taken_of}
use Rattle.sarif_model.specs.Limits.{most_results, most_runs}
use Rattle.sarif_model.specs.declared.kinds.State.{State}
use Rattle.sarif_prepare.specs.Hidden.{drafts_of}
use Rattle.sarif_prepare.specs.Internal.Baselines.{baseline_drafts}
use Rattle.sarif_prepare.specs.Internal.Leftover.{found_at}
use Rattle.sarif_prepare.specs.Internal.Limiting.{unadmitted}
use Rattle.sarif_prepare.specs.Internal.Together.{AreTogether, IsPaired}
use Rattle.sarif_prepare.specs.Ruled.{drafts_before, matched_in}
use Rattle.sarif_prepare.specs.declared.baselines.Baselines.{Baselines}
use Rattle.sarif_prepare.specs.declared.halves.Half.{Half}
use Rattle.sarif_prepare.specs.declared.pairing.Paired.{Paired}
use Rattle.sarif_prepare.proofs.LeftTexts.{long}
use Rattle.sarif_prepare.proofs.NarrowedSides.{drafts_few, left_many, spots_many, states_all, states_are, taken_are}
use Rattle.sarif_prepare.proofs.Untaken.{untaken_is}
use Rattle.sarif_prepare.proofs.WrittenSides.{baseline_long, current_long}
use Rattle.sarif_read.specs.Unmarked.{unmarked}
use Rattle.sarif_runs.specs.Internal.Opened.{placed_of}
use Rattle.sarif_runs.specs.Internal.Spots.{spots_from, IsSpotOf}
use Rattle.sarif_runs.specs.Judging.{records_of}
use Rattle.sarif_runs.specs.Placed.{Placed}

all_there : (states : List State) → map state_in (map Some states) ≡ states
all_there [] = refl
all_there (state ∷ states) = ap (λ rest. state ∷ rest) (all_there states)

-- the results are those of the logs
pub record AreOfLogs (c : Half) (p : Paired) (x : CurrentResults) : Type 0 where
  pub runs : x.runs.now ≡ c.runs.items
  pub records : x.records.now ≡ c.records.items
  pub drafts : x.drafts.now ≡ c.drafts.items
  pub states : x.states.now ≡ p.states.items

-- the results are those of the baselines
pub record AreOfBaselines (b : Baselines) (p : Paired) (x : LeftResults) : Type 0 where
  pub runs : x.runs.now ≡ b.runs.items
  pub spots : x.spots.now ≡ b.spots.items
  pub records : x.records.now ≡ b.records.items
  pub taken : x.taken.now ≡ p.taken.items
  pub left : x.left.now ≡ p.left.items

module _ (v : MatchingVersion) (file : File) (now before : List Placed) (c : Half) (b : Baselines) (p : Paired)
    (h : AreTogether file now before c b) (q : IsPaired v c b p) where
  -- ---- the results of the logs

  module _ (x : CurrentResults) (is : AreOfLogs c p x) where
    runs_are : runs_in x ≡ now
    runs_are = ap (map placed_of) is.runs ∙ h.is_current.opened

    pub current_are : AreCurrent x
    current_are = record {
      few_runs = subst (λ n. n ≤ most_runs) (sym (ap length runs_are)) h.few_runs;
      few = subst (λ ds. length ds ≤ most_results) (sym is.drafts) (drafts_few v file now before c b p h q);
      drafts =
          ap length is.drafts ∙ spots_many v file now before c b p h q
          ∙ sym (ap (λ rs. length (spots_from 0 (map placed_of rs))) is.runs);
      records =
          ap length is.records ∙ ap length h.is_current.records ∙ limited_long file (records_of now)
          ∙ sym (current_long file now before c b h) ∙ sym (ap length is.drafts);
      states = ap length is.states ∙ states_all v file now before c b p h q ∙ sym (ap length is.drafts);
    }

    states_given : map state_in x.states.now ≡ states_of v (records_of now) (records_of before)
    states_given =
        ap (map state_in) (is.states ∙ states_are v file now before c b p h q)
        ∙ all_there (states_of v (records_of now) (records_of before))

  -- ---- the results of the baselines

  module _ (x : LeftResults) (is : AreOfBaselines b p x) where
    before_are : runs_before x ≡ before
    before_are = ap (map placed_of) is.runs ∙ h.are_baselines.opened

    spots_long : length b.records.items ≡ length b.spots.items
    spots_long =
        ap length h.are_baselines.records ∙ h.are_baselines.count ∙ sym (ap length h.are_baselines.spots)
        ∙ length-map b.spots.items (found_at before)

    taken_all : length p.taken.items ≡ length b.records.items
    taken_all = ap length q.taken ∙ taken_long v (map unadmitted c.records.items) b.records.items

    drafts_all : length (baseline_drafts before) ≡ length p.taken.items
    drafts_all = baseline_long before b h.are_baselines ∙ sym (ap length h.are_baselines.records) ∙ sym taken_all

    left_long : length p.left.items ≡ length (unmarked p.taken.items b.spots.items)
    left_long =
        ap length (q.left before h.are_baselines)
        ∙ long p.taken.items (baseline_drafts before) b.spots.items drafts_all (sym spots_long ∙ sym taken_all)
        ∙ ap length (untaken_is p.taken.items b.spots.items)

    pub left_are : AreLeft x
    left_are = record {
      within =
          subst (λ ps. All (IsSpotOf ps) x.spots.now) (sym before_are)
          (subst (All (IsSpotOf before)) (sym is.spots) h.are_baselines.within);
      pairs =
          subst (λ ps. map (pair_at ps) x.spots.now ≡ all_present ps) (sym before_are)
          (ap (map (pair_at before)) is.spots ∙ h.are_baselines.pairs);
      records = ap length is.records ∙ spots_long ∙ sym (ap length is.spots);
      taken = ap length is.taken ∙ taken_all ∙ sym (ap length is.records);
      left =
          ap length is.left ∙ left_long ∙ ap (λ ts. length (unmarked ts b.spots.items)) (sym is.taken)
          ∙ ap (λ ss. length (unmarked x.taken.now ss)) (sym is.spots);
      few = subst (λ ds. length ds ≤ most_results) (sym is.left) (left_many v file now before c b p h q);
    }

    taken_given : x.taken.now ≡ taken_of v (records_of now) (records_of before)
    taken_given = is.taken ∙ taken_are v file now before c b p h q

    left_given : x.left.now ≡ unmarked (taken_of v (records_of now) (records_of before)) (drafts_before before)
    left_given =
        is.left ∙ q.left before h.are_baselines ∙ untaken_is p.taken.items (drafts_before before)
        ∙ ap (λ ts. unmarked ts (drafts_before before)) (taken_are v file now before c b p h q)

  -- ---- both

  pub matched_is : (m : MatchedMerge) → AreOfLogs c p m.current → AreOfBaselines b p m.before → m.file.now ≡ file
      → matched_of m ≡ matched_in v file (option_map (λ change. change.now) m.change) now before
  matched_is m logs baselines same =
      let runs = runs_are m.current logs in
      let records = logs.records ∙ h.is_current.records in
      let states = states_given m.current logs in
      let drafts : m.current.drafts.now ≡ drafts_of file now = logs.drafts ∙ h.is_current.drafts in
      let older = before_are m.before baselines in
      let known = baselines.records ∙ h.are_baselines.records in
      let taken = taken_given m.before baselines in
      let left = left_given m.before baselines in
      rw (same, runs, records, states, drafts, older, known, left, taken) refl
