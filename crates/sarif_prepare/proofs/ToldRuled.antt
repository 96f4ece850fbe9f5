-- The findings of the results that conditions report, from both sides.
use Rattle.std.proofs.Common.{◌≡◌, ◌+◌, ◌++◌, Bool, List, [], ◌∷◌, Option, Some, None, map, take, drop, length, refl, sym, ap, subst, ◌∙◌}
use Rattle.std.proofs.Math.Seq.{take-append_seam, drop-append_seam}
use Rattle.std.proofs.lemmas.List.{length-map, map-append}
use Rattle.std.proofs.lemmas.List.Elements.{filter-append}
use Rattle.std.specs.Prelude.{not}
use Rattle.serde_json.specs.Data.{Data}
use Rattle.sarif_conditions.specs.Decided.{impact_of, is_known}
use Rattle.sarif_conditions.specs.Judged.{Judged}
use Rattle.sarif_conditions.specs.declared.decided.Decided.{Decided}
use Rattle.sarif_counts.specs.declared.gate_verdict.Impact.{Impact}
use Rattle.sarif_deciding.specs.Matched.{Matched}
use Rattle.sarif_deciding.proofs.Unmarked.{unmarked_long}
use Rattle.sarif_deciding.specs.Present.{all_present}
use Rattle.sarif_deciding.specs.Results.{absent_results, absent_seen, current_results, current_seen, for_each, judged_all, results_in, Seen}
use Rattle.sarif_deciding.specs.Ruling.{ruling_in}
use Rattle.sarif_entries.specs.File.{File}
use Rattle.sarif_evidence.specs.declared.version.MatchingVersion.{MatchingVersion}
use Rattle.sarif_findings.specs.declared.finding.Finding.{Finding}
use Rattle.sarif_findings.specs.declared.reporting.Reporting.{Reporting}
use Rattle.sarif_findings.specs.declared.reporting.Show.{Show}
use Rattle.sarif_log.proofs.Limits.{limited_long}
use Rattle.sarif_log.specs.LogBy.{runs_by, states_of, taken_of}
use Rattle.sarif_model.specs.declared.kinds.State.{State}
use Rattle.sarif_model.specs.declared.kinds.State.TheVariants.{Absent}
use Rattle.sarif_model.specs.declared.record.Record.{Record}
use Rattle.sarif_policy.specs.declared.condition.GateCondition.{GateCondition}
use Rattle.sarif_prepare.specs.Internal.Impacts.{all_shown, is_hidden, put_impacts}
use Rattle.sarif_prepare.specs.Internal.Leftover.{found_at, not_taken}
use Rattle.sarif_prepare.specs.Internal.Telling.{pair_at, told_each}
use Rattle.sarif_prepare.specs.Internal.Together.{AreTogether, IsPaired}
use Rattle.sarif_prepare.specs.Ruled.{decided_by, drafts_before, matched_in}
use Rattle.sarif_prepare.specs.declared.baselines.Baselines.{Baselines}
use Rattle.sarif_prepare.specs.declared.halves.Half.{Half}
use Rattle.sarif_prepare.specs.declared.pairing.Paired.{Paired}
use Rattle.sarif_prepare.specs.Told.{active_in, active_impacts, of_all, shown_by, told_ruled, told_with}
use Rattle.sarif_prepare.proofs.ShownImpacts.{active_long, no_impact, side_told, told_both, AreActiveAs}
use Rattle.sarif_prepare.proofs.NarrowedSides.{spots_many, states_all, states_are, taken_are}
use Rattle.sarif_prepare.proofs.RuledLong.{absent_each, current_each, each_result}
use Rattle.sarif_prepare.proofs.ToldSides.{sides_told}
use Rattle.sarif_prepare.proofs.Untaken.{untaken_is}
use Rattle.sarif_prepare.proofs.WrittenSides.{baseline_long, current_long}
use Rattle.sarif_log.specs.Internal.Copied.{masked}
use Rattle.sarif_read.specs.Unmarked.{unmarked}
use Rattle.sarif_results.specs.declared.draft.Draft.{Draft}
use Rattle.sarif_runs.specs.Internal.Opened.{placed_of}
use Rattle.sarif_runs.specs.Internal.Spots.{spots_from}
use Rattle.sarif_runs.specs.Judging.{records_of}
use Rattle.sarif_runs.specs.Placed.{Placed}
use Rattle.sarif_scope.specs.declared.gated.GatedChange.{GatedChange}

-- a result is suppressed where its draft says so
pub active_as : (rs : List Record) (xs : List State) (ds : List Draft) (seen : List Seen) → AreActiveAs (judged_all rs xs ds seen) ds
active_as [] xs ds seen = tt
active_as (r ∷ rs) [] ds seen = tt
active_as (r ∷ rs) (x ∷ xs) [] seen = tt
active_as (r ∷ rs) (x ∷ xs) (d ∷ ds) [] = tt
active_as (r ∷ rs) (x ∷ xs) (d ∷ ds) (one ∷ seen) = (refl, active_as rs xs ds seen)

-- the findings of the results of logs, followed by those of the results that are left of baselines
module _ (show : Show) (reporting : Reporting) (cs : List GateCondition) (m : Matched) where
  abbrev does : Judged → Option Impact
  does = impact_of cs (results_in cs m)

  abbrev shown : List Judged → List (Option Impact)
  shown rs = map (shown_by show) (map does rs)

  abbrev found : List (Data × Data) → List Draft → List State → List Finding
  found ps ds xs = told_each (of_all reporting) ps ds (map Some xs)

  abbrev here : List (Data × Data) → List Draft → List State → List Judged → List Finding
  here ps ds xs rs = put_impacts (told_each (of_all reporting) ps ds (masked (map is_hidden (shown rs)) (map Some xs))) (all_shown (shown rs))

  pub both_told : (ps qs : List (Data × Data)) (ds es : List Draft) (xs ys : List State)
      → length ds ≡ length ps → length xs ≡ length ps → length (current_results cs m) ≡ length ps → AreActiveAs (current_results cs m) ds
      → length es ≡ length qs → length ys ≡ length qs → length (absent_results cs m) ≡ length qs → AreActiveAs (absent_results cs m) es
      → here ps ds xs (current_results cs m) ++ here qs es ys (absent_results cs m)
      ≡ told_with show (active_impacts cs m) (found ps ds xs ++ found qs es ys)
  both_told ps qs ds es xs ys d1 x1 r1 as1 d2 x2 r2 as2 =
      let now = current_results cs m in
      let gone = absent_results cs m in
      let quiet = no_impact cs (results_in cs m) in
      let one = side_told show reporting does quiet ps ds xs now d1 x1 r1 as1 in
      let other = side_told show reporting does quiet qs es ys gone d2 x2 r2 as2 in
      let long = active_long show reporting does quiet ps ds xs now d1 x1 r1 as1 in
      ap (λ fs. fs ++ here qs es ys gone) one
      ∙ ap (λ fs. told_with show (map does (active_in now)) (found ps ds xs) ++ fs) other
      ∙ sym (told_both show (map does (active_in now)) (map does (active_in gone)) (found ps ds xs) (found qs es ys) long)
      ∙ ap (λ is. told_with show is (found ps ds xs ++ found qs es ys))
      (sym (ap (map does) (filter-append (λ r. not r.suppressed) now gone) ∙ map-append does (active_in now) (active_in gone)))

  -- the first of what is shown is of the results of logs
  pub first_shown : (impacts : List (Option Impact)) → impacts ≡ map does (results_in cs m)
      → take (length (current_results cs m)) (map (shown_by show) impacts) ≡ shown (current_results cs m)
  first_shown impacts is =
      let now = current_results cs m in
      let gone = absent_results cs m in
      ap (λ es. take (length now) (map (shown_by show) es)) (is ∙ map-append does now gone)
      ∙ ap (take (length now)) (map-append (shown_by show) (map does now) (map does gone))
      ∙ ap (λ n. take n (shown now ++ shown gone)) (sym (length-map (map does now) (shown_by show) ∙ length-map now does))
      ∙ take-append_seam (shown now) (shown gone)

  pub last_shown : (impacts : List (Option Impact)) → impacts ≡ map does (results_in cs m)
      → drop (length (current_results cs m)) (map (shown_by show) impacts) ≡ shown (absent_results cs m)
  last_shown impacts is =
      let now = current_results cs m in
      let gone = absent_results cs m in
      ap (λ es. drop (length now) (map (shown_by show) es)) (is ∙ map-append does now gone)
      ∙ ap (drop (length now)) (map-append (shown_by show) (map does now) (map does gone))
      ∙ ap (λ n. drop n (shown now ++ shown gone)) (sym (length-map (map does now) (shown_by show) ∙ length-map now does))
      ∙ drop-append_seam (shown now) (shown gone)

abbrev pub impacts_or : List (Option Impact) → Option Decided → List (Option Impact)
impacts_or other None = other
impacts_or other (Some d) = d.impacts

abbrev knowns_or : List Bool → Option Decided → List Bool
knowns_or other None = other
knowns_or other (Some d) = d.known

absent_states : (ds : List Draft) → map Some (map (λ _. Absent) ds) ≡ map (λ _. Some Absent) ds
absent_states [] = refl
absent_states (d ∷ ds) = ap (λ ss. Some Absent ∷ ss) (absent_states ds)

module _ (v : MatchingVersion) (file : File) (now before : List Placed) (c : Half) (b : Baselines) (p : Paired)
    (h : AreTogether file now before c b) (q : IsPaired v c b p) (change : Option GatedChange) (cs : List GateCondition) where
  abbrev m : Matched
  m = matched_in v file change now before

  abbrev taken : List Bool
  taken = taken_of v (records_of now) (records_of before)

  abbrev xs : List State
  xs = states_of v (records_of now) (records_of before)

  abbrev ys : List State
  ys = map (λ _. Absent) p.left.items

  abbrev pairs : List (Data × Data)
  pairs = map (pair_at now) (spots_from 0 now)

  abbrev others : List (Data × Data)
  others = map (pair_at before) (not_taken p.taken.items b.spots.items)

  drafts_same : c.drafts.items ≡ m.drafts
  drafts_same = h.is_current.drafts

  drafts_many : length c.drafts.items ≡ length (spots_from 0 now)
  drafts_many = spots_many v file now before c b p h q ∙ ap (λ ps. length (spots_from 0 ps)) h.is_current.opened

  xs_long : length xs ≡ length c.drafts.items
  xs_long = sym (length-map xs Some) ∙ ap length (sym (states_are v file now before c b p h q)) ∙ states_all v file now before c b p h q

  records_long : length m.records ≡ length c.drafts.items
  records_long = limited_long file (records_of now) ∙ sym (current_long file now before c b h)

  left_same : p.left.items ≡ m.left
  left_same =
      q.left before h.are_baselines ∙ untaken_is p.taken.items (drafts_before before)
      ∙ ap (λ ts. unmarked ts (drafts_before before)) (taken_are v file now before c b p h q)

  known_long : length (drafts_before before) ≡ length m.known
  known_long = baseline_long before b h.are_baselines

  left_long : length m.left ≡ length (unmarked m.taken m.known)
  left_long = unmarked_long taken (drafts_before before) (records_of before) known_long

  present_long : length (all_present before) ≡ length m.known
  present_long =
      ap length (sym h.are_baselines.pairs) ∙ length-map b.spots.items (pair_at before)
      ∙ sym (length-map b.spots.items (found_at before)) ∙ ap length h.are_baselines.spots ∙ sym h.are_baselines.count

  pub current_many : length (current_results cs m) ≡ length c.drafts.items
  current_many =
      current_each cs m (records_long ∙ ap length drafts_same) (xs_long ∙ ap length drafts_same) (sym (ap length drafts_same) ∙ drafts_many)
      ∙ sym (ap length drafts_same)

  pub absent_many : length (absent_results cs m) ≡ length p.left.items
  absent_many = absent_each cs m left_long present_long ∙ sym (ap length left_same)

  -- each result has its impact
  pub impacts_many : length (ruling_in cs m).impacts ≡ length c.drafts.items + length p.left.items
  impacts_many =
      length-map (results_in cs m) (impact_of cs (results_in cs m))
      ∙ each_result cs m (length c.drafts.items) (length p.left.items) current_many absent_many

  -- each result is or isn't a hit, regardless of the change
  pub knowns_many : length (ruling_in cs m).known ≡ length c.drafts.items + length p.left.items
  knowns_many =
      length-map (results_in cs m) (is_known cs)
      ∙ each_result cs m (length c.drafts.items) (length p.left.items) current_many absent_many

  others_long : length others ≡ length p.left.items
  others_long =
      length-map (not_taken p.taken.items b.spots.items) (pair_at before)
      ∙ ap length (untaken_is p.taken.items b.spots.items)
      ∙ ap (λ ts. length (unmarked ts b.spots.items)) (taken_are v file now before c b p h q)
      ∙ unmarked_long taken b.spots.items (records_of before)
      (sym (length-map b.spots.items (found_at before)) ∙ ap length h.are_baselines.spots ∙ sym h.are_baselines.count)
      ∙ sym left_long ∙ sym (ap length left_same)

  as_now : AreActiveAs (current_results cs m) c.drafts.items
  as_now = subst (AreActiveAs (current_results cs m)) (sym drafts_same) (active_as m.records m.states m.drafts (current_seen cs m))

  as_gone : AreActiveAs (absent_results cs m) p.left.items
  as_gone =
      subst (AreActiveAs (absent_results cs m)) (sym left_same)
      (active_as (unmarked m.taken m.known) (for_each Absent m.left) m.left (absent_seen cs m))

  module _ (reporting : Reporting) (impacts here there : List (Option Impact)) (decided : impacts ≡ (ruling_in cs m).impacts)
      (first : here ≡ take (length c.drafts.items) (map (shown_by reporting.show) impacts))
      (last : there ≡ drop (length c.drafts.items) (map (shown_by reporting.show) impacts)) where
    abbrev show : Show
    show = reporting.show

    abbrev shown_of : List Judged → List (Option Impact)
    shown_of rs = map (shown_by show) (map (impact_of cs (results_in cs m)) rs)

    here_is : here ≡ shown_of (current_results cs m)
    here_is =
        first ∙ ap (λ n. take n (map (shown_by show) impacts)) (sym current_many) ∙ first_shown show reporting cs m impacts decided

    there_is : there ≡ shown_of (absent_results cs m)
    there_is =
        last ∙ ap (λ n. drop n (map (shown_by show) impacts)) (sym current_many) ∙ last_shown show reporting cs m impacts decided

    abbrev put : List (Data × Data) → List Draft → List (Option State) → List (Option Impact) → List Finding
    put ps ds states shown = put_impacts (told_each (of_all reporting) ps ds (masked (map is_hidden shown) states)) (all_shown shown)

    told_now : put (map (pair_at (map placed_of c.runs.items)) (spots_from 0 (map placed_of c.runs.items))) c.drafts.items p.states.items here
        ≡ put pairs c.drafts.items (map Some xs) (shown_of (current_results cs m))
    told_now =
        ap (λ ps. put (map (pair_at ps) (spots_from 0 ps)) c.drafts.items p.states.items here) h.is_current.opened
        ∙ ap (λ ss. put pairs c.drafts.items ss here) (states_are v file now before c b p h q)
        ∙ ap (put pairs c.drafts.items (map Some xs)) here_is

    told_gone : put (map (pair_at (map placed_of b.runs.items)) (not_taken p.taken.items b.spots.items)) p.left.items
        (map (λ _. Some Absent) p.left.items) there
        ≡ put others p.left.items (map Some ys) (shown_of (absent_results cs m))
    told_gone =
        ap (λ ps. put (map (pair_at ps) (not_taken p.taken.items b.spots.items)) p.left.items (map (λ _. Some Absent) p.left.items) there)
        h.are_baselines.opened
        ∙ ap (λ ss. put others p.left.items ss there) (sym (absent_states p.left.items))
        ∙ ap (put others p.left.items (map Some ys)) there_is

    pub ruled_told : put (map (pair_at (map placed_of c.runs.items)) (spots_from 0 (map placed_of c.runs.items))) c.drafts.items p.states.items here
        ++ put (map (pair_at (map placed_of b.runs.items)) (not_taken p.taken.items b.spots.items)) p.left.items
        (map (λ _. Some Absent) p.left.items) there
        ≡ told_ruled cs m reporting (runs_by v file now before)
    ruled_told =
        let pairs_long = length-map (spots_from 0 now) (pair_at now) in
        let one = drafts_many ∙ sym pairs_long in
        ap (λ fs. fs ++ put (map (pair_at (map placed_of b.runs.items)) (not_taken p.taken.items b.spots.items)) p.left.items
        (map (λ _. Some Absent) p.left.items) there) told_now
        ∙ ap (λ fs. put pairs c.drafts.items (map Some xs) (shown_of (current_results cs m)) ++ fs) told_gone
        ∙ both_told show reporting cs m pairs others c.drafts.items p.left.items xs ys one (xs_long ∙ one) (current_many ∙ one) as_now
        (sym others_long) (length-map p.left.items (λ _. Absent) ∙ sym others_long) (absent_many ∙ sym others_long) as_gone
        ∙ ap (λ ss. told_with show (active_impacts cs m) (told_each (of_all reporting) pairs c.drafts.items ss
        ++ told_each (of_all reporting) others p.left.items (map Some ys))) (sym (states_are v file now before c b p h q))
        ∙ ap (λ ss. told_with show (active_impacts cs m) (told_each (of_all reporting) pairs c.drafts.items p.states.items
        ++ told_each (of_all reporting) others p.left.items ss)) (absent_states p.left.items)
        ∙ ap (told_with show (active_impacts cs m)) (sides_told v (Some (of_all reporting)) file now before c b p h q)

-- each result is or isn't a hit, for all conditions
pub known_each : (v : MatchingVersion) (file : File) (now before : List Placed) (c : Half) (b : Baselines) (p : Paired)
    → AreTogether file now before c b → IsPaired v c b p → (change : Option GatedChange) (conditions : Option (List GateCondition)) (ruling : Decided)
    → Some ruling ≡ decided_by conditions (matched_in v file change now before)
    → length ruling.known ≡ length c.drafts.items + length p.left.items
known_each v file now before c b p h q change None ruling some = let e : Some ruling ≡ None = some in absurd (cc e)
known_each v file now before c b p h q change (Some cs) ruling some =
    ap (λ o. length (knowns_or ruling.known o)) some ∙ knowns_many v file now before c b p h q change cs

-- each result has its impact, for all conditions
pub decided_many : (v : MatchingVersion) (file : File) (now before : List Placed) (c : Half) (b : Baselines) (p : Paired)
    → AreTogether file now before c b → IsPaired v c b p → (change : Option GatedChange) (conditions : Option (List GateCondition)) (ruling : Decided)
    → Some ruling ≡ decided_by conditions (matched_in v file change now before)
    → length ruling.impacts ≡ length c.drafts.items + length p.left.items
decided_many v file now before c b p h q change None ruling some = let e : Some ruling ≡ None = some in absurd (cc e)
decided_many v file now before c b p h q change (Some cs) ruling some =
    ap (λ o. length (impacts_or ruling.impacts o)) some ∙ impacts_many v file now before c b p h q change cs
