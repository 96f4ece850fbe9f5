-- The marks that are spread over the hits of conditions are those of the merged log.
use Rattle.std.proofs.Common.{◌≡◌, ◌+◌, ◌++◌, ℕ, zero, suc, Bool, true, false, not, ◌&&◌, List, [], ◌∷◌, Option, Some, None, map, take, drop, length, refl, sym, ap, subst, ◌∙◌, arith}
use Rattle.std.proofs.lemmas.List.{length-map, length-take-le, map-append}
use Rattle.std.specs.Prelude.{option_map, IfSome}
use Rattle.std.specs.Option.{option_map_or}
use Rattle.serde_json.specs.Data.{Data}
use Rattle.sarif_choice.specs.Choice.{fits_one, is_chosen, places_of, rules_of, unfit_of}
use Rattle.sarif_choice.specs.declared.choice.Choice.{Choice}
use Rattle.sarif_choice.specs.declared.choice.Choosing.{Choosing}
use Rattle.sarif_conditions.specs.declared.decided.Decided.{Decided}
use Rattle.sarif_counts.specs.declared.gate_verdict.Impact.{Impact}
use Rattle.sarif_counts.specs.declared.gate_verdict.Impact.TheVariants as impacts
use Rattle.sarif_deciding.specs.Matched.{Matched}
use Rattle.sarif_deciding.specs.Ruling.{ruling_in}
use Rattle.sarif_entries.specs.File.{File}
use Rattle.sarif_evidence.specs.declared.version.MatchingVersion.{MatchingVersion}
use Rattle.sarif_findings.specs.declared.finding.Finding.{Finding}
use Rattle.sarif_findings.specs.declared.reporting.Reporting.{Reporting}
use Rattle.sarif_findings.specs.declared.reporting.Show.TheVariants.{Hits}
use Rattle.sarif_log.specs.Internal.Copied.{masked}
use Rattle.sarif_log.specs.LogBy.{current_runs, runs_by}
use Rattle.sarif_model.specs.declared.kinds.State.{State}
use Rattle.sarif_model.specs.declared.kinds.State.TheVariants.{Absent}
use Rattle.sarif_options.specs.declared.policy.Policy.{Policy}
use Rattle.sarif_outside.specs.Marks.{both}
use Rattle.sarif_policy.specs.declared.condition.GateCondition.{GateCondition}
use Rattle.sarif_prepare.specs.Chosen.{at_of, hits_alone, hits_among, is_hit_by, is_no_hit, marks_by, marks_in, misfit_by, others_among}
use Rattle.sarif_prepare.specs.Internal.Impacts.{all_shown, is_hidden, put_impact, put_impacts}
use Rattle.sarif_prepare.specs.Internal.Leftover.{not_taken}
use Rattle.sarif_prepare.specs.Internal.Marking.{marked_each, spread_by, spread_told}
use Rattle.sarif_prepare.specs.Internal.Outside.{states_by, AreNarrowed}
use Rattle.sarif_prepare.specs.Internal.Ruling.{IsRuled, IsRuledIf}
use Rattle.sarif_prepare.specs.Internal.Telling.{pair_at, told_as, told_each}
use Rattle.sarif_prepare.specs.Internal.Together.{AreTogether, IsPaired}
use Rattle.sarif_prepare.specs.Ruled.{decided_by, matched_in}
use Rattle.sarif_prepare.specs.Told.{of_all, shown_by, told_in, told_ruled}
use Rattle.sarif_prepare.specs.declared.baselines.Baselines.{Baselines}
use Rattle.sarif_prepare.specs.declared.halves.Half.{Half}
use Rattle.sarif_prepare.specs.declared.outside.Narrowed.{Narrowed}
use Rattle.sarif_prepare.specs.declared.pairing.Paired.{Paired}
use Rattle.sarif_prepare.specs.declared.ruled.RuledSides.{RuledSides}
use Rattle.sarif_prepare.proofs.MarkedRuns.{marked_long, spread_marked}
use Rattle.sarif_prepare.proofs.MarkedSides.{current_marked, mark_is, pairs_long, states_many}
use Rattle.sarif_prepare.proofs.NarrowedSides.{masked_long}
use Rattle.sarif_prepare.proofs.ToldRuled.{ruled_told}
use Rattle.sarif_results.specs.declared.draft.Draft.{Draft}
use Rattle.sarif_runs.specs.Internal.Opened.{placed_of}
use Rattle.sarif_runs.specs.Internal.Spots.{spots_from}
use Rattle.sarif_runs.specs.Placed.{Placed}
use Rattle.sarif_scope.specs.declared.gated.GatedChange.{GatedChange}

-- ---- what is shown in a report of hits

hidden_is : (impact : Option Impact) → is_hidden (shown_by Hits impact) ≡ is_no_hit impact
hidden_is None = refl
hidden_is (Some impacts.Stops) = refl
hidden_is (Some impacts.Hit) = refl
hidden_is (Some impacts.None) = refl

pub all_hidden : (n : ℕ) (is : List (Option Impact)) → map is_hidden (take n (map (shown_by Hits) is)) ≡ map is_no_hit (take n is)
all_hidden zero is = refl
all_hidden (suc n) [] = refl
all_hidden (suc n) (impact ∷ is) = ap (λ b. b ∷ map is_hidden (take n (map (shown_by Hits) is))) (hidden_is impact)
    ∙ ap (λ l. is_no_hit impact ∷ l) (all_hidden n is)

not_not : (b : Bool) → not (not b) ≡ b
not_not true = refl
not_not false = refl

pub others_not : (is : List (Option Impact)) → map not (map is_no_hit is) ≡ map is_hit_by is
others_not [] = refl
others_not (impact ∷ is) = ap (λ b. b ∷ map not (map is_no_hit is)) (not_not (is_hit_by impact)) ∙ ap (λ l. is_hit_by impact ∷ l) (others_not is)

-- ---- a choice doesn't read what a result does to the gate

places_put : (places : List (List ℕ)) (f : Finding) (impact : Impact) → fits_one places_of places (put_impact f impact) ≡ fits_one places_of places f
places_put [] f impact = refl
places_put (one ∷ places) f impact = refl

rules_put : (rules : List (List ℕ)) (f : Finding) (impact : Impact) → fits_one rules_of rules (put_impact f impact) ≡ fits_one rules_of rules f
rules_put [] f impact = refl
rules_put (one ∷ rules) f impact = refl

chosen_one : (choice : Choice) (f : Finding) (impact : Impact) → is_chosen choice (put_impact f impact) ≡ is_chosen choice f
chosen_one choice f impact =
    ap (λ b. b && fits_one rules_of choice.rules (put_impact f impact)) (places_put choice.places f impact)
    ∙ ap (λ b. fits_one places_of choice.places f && b) (rules_put choice.rules f impact)

module _ (reporting : Reporting) (choice : Choice) where
  pub chosen_put : (fs : List Finding) (is : List Impact) → map (is_chosen choice) (put_impacts fs is) ≡ map (is_chosen choice) fs
  chosen_put [] is = refl
  chosen_put (f ∷ fs) [] = refl
  chosen_put (f ∷ fs) (impact ∷ is) =
      ap (λ b. b ∷ map (is_chosen choice) (put_impacts fs is)) (chosen_one choice f impact) ∙ ap (λ l. is_chosen choice f ∷ l) (chosen_put fs is)

  -- a result that is hidden isn't marked
  pub marked_unless : (hidden : List Bool) (ps : List (Data × Data)) (ds : List Draft) (ss : List (Option State))
      → marked_each reporting choice ps ds (masked hidden ss) ≡ both (map not hidden) (marked_each reporting choice ps ds ss)
  marked_unless [] [] ds ss = refl
  marked_unless (h ∷ hidden) [] ds ss = refl
  marked_unless [] (p ∷ ps) [] ss = refl
  marked_unless (h ∷ hidden) (p ∷ ps) [] ss = refl
  marked_unless [] (p ∷ ps) (d ∷ ds) ss = refl
  marked_unless (h ∷ hidden) (p ∷ ps) (d ∷ ds) [] = refl
  marked_unless (true ∷ hidden) (p ∷ ps) (d ∷ ds) (s ∷ ss) = ap (λ l. false ∷ l) (marked_unless hidden ps ds ss)
  marked_unless (false ∷ hidden) (p ∷ ps) (d ∷ ds) (s ∷ ss) =
      ap (λ l. option_map_or (is_chosen choice) (told_as reporting p.0 p.1 d s) false ∷ l) (marked_unless hidden ps ds ss)

-- ---- the marks of a merge

module _ (v : MatchingVersion) (reporting : Reporting) (choice : Choice) (file : File) (now before : List Placed) (c : Half) (b : Baselines) (p : Paired)
    (h : AreTogether file now before c b) (q : IsPaired v c b p) (change : Option GatedChange) (cs : List GateCondition) (hits : reporting.show ≡ Hits) where
  abbrev m : Matched
  m = matched_in v file change now before

  abbrev does : List (Option Impact)
  does = (ruling_in cs m).impacts

  abbrev n : ℕ
  n = length c.drafts.items

  abbrev all : Reporting
  all = of_all reporting

  abbrev pairs : List (Data × Data)
  pairs = map (pair_at now) (spots_from 0 now)

  abbrev here : List (Option Impact)
  here = take n (map (shown_by reporting.show) does)

  abbrev there : List (Option Impact)
  there = drop n (map (shown_by reporting.show) does)

  -- the findings of the hits begin with those of results of logs
  abbrev back : List Finding
  back =
      put_impacts (told_each all (map (pair_at (map placed_of b.runs.items)) (not_taken p.taken.items b.spots.items)) p.left.items
      (masked (map is_hidden there) (map (λ _. Some Absent) p.left.items))) (all_shown there)

  hidden_are : map is_hidden here ≡ others_among n (ruling_in cs m)
  hidden_are = ap (λ show. map is_hidden (take n (map (shown_by show) does))) hits ∙ all_hidden n does

  -- the marks of the hits are those of the results of logs that aren't hidden, followed by others
  marks_begin : (found : List Finding) (marks : List Bool) → found ≡ told_ruled cs m reporting (runs_by v file now before)
      → marks ≡ map (is_chosen choice) found
      → marks ≡ map (is_chosen choice) (told_each all pairs c.drafts.items (masked (others_among n (ruling_in cs m)) p.states.items))
      ++ map (is_chosen choice) back
  marks_begin found marks found_are marks_are =
      let ps = map placed_of c.runs.items in
      let front = put_impacts (told_each all (map (pair_at ps) (spots_from 0 ps)) c.drafts.items (masked (map is_hidden here) p.states.items)) (all_shown here) in
      marks_are
      ∙ ap (map (is_chosen choice)) (found_are ∙ sym (ruled_told v file now before c b p h q change cs reporting does here there refl refl refl))
      ∙ map-append (is_chosen choice) front back
      ∙ ap (λ ms. ms ++ map (is_chosen choice) back)
      (chosen_put reporting choice (told_each all (map (pair_at ps) (spots_from 0 ps)) c.drafts.items (masked (map is_hidden here) p.states.items)) (all_shown here)
      ∙ ap (λ qs. map (is_chosen choice) (told_each all (map (pair_at qs) (spots_from 0 qs)) c.drafts.items (masked (map is_hidden here) p.states.items)))
      h.is_current.opened
      ∙ ap (λ hs. map (is_chosen choice) (told_each all pairs c.drafts.items (masked hs p.states.items))) hidden_are)

  long : length (marks_in None all choice (current_runs v file now before)) ≡ n
  long =
      ap length (sym (current_marked v all choice file now before c b p h q))
      ∙ marked_long all choice pairs c.drafts.items p.states.items (pairs_long v all choice file now before c b p h q)
      (states_many v all choice file now before c b p h q)

  -- which results of logs are hits that are chosen
  pub spread_ruled : (found : List Finding) (marks : List Bool) → found ≡ told_ruled cs m reporting (runs_by v file now before)
      → marks ≡ map (is_chosen choice) found
      → spread_told all c.drafts.items (masked (others_among n (ruling_in cs m)) p.states.items) marks 0
      ≡ marks_by (Some (ruling_in cs m)) change reporting choice (current_runs v file now before)
  spread_ruled found marks found_are marks_are =
      let states = p.states.items in
      let others = others_among n (ruling_in cs m) in
      let marks_all = marks_in None all choice (current_runs v file now before) in
      spread_marked all choice pairs c.drafts.items (masked others states) marks (map (is_chosen choice) back) 0
      (pairs_long v all choice file now before c b p h q) (marks_begin found marks found_are marks_are)
      ∙ marked_unless all choice others pairs c.drafts.items states
      ∙ ap (both (map not others)) (current_marked v all choice file now before c b p h q)
      ∙ ap (λ hs. both hs marks_all) (others_not (take n does))
      ∙ ap (λ k. both (hits_among k (ruling_in cs m)) marks_all) (sym long)

-- ---- what is marked, and what fits no chosen hit, with conditions or without

pub lent_ruled : (p r : Paired) (d e : Option Decided) (x y : Option RuledSides) → r ≡ p → e ≡ d → y ≡ x → IsRuledIf d p x → IsRuledIf e r y
lent_ruled p r d e x y same_p same_d same_x is =
    subst (λ o. IsRuledIf e r o) (sym same_x) (subst (λ o. IsRuledIf o r x) (sym same_d) (subst (λ o. IsRuledIf d o x) (sym same_p) is))

pub ruled_many : (c : Half) (p : Paired) (decided : Option Decided) (ruled : Option RuledSides) → IsRuledIf decided p ruled
    → ((ruling : Decided) → decided ≡ Some ruling → length ruling.impacts ≡ length c.drafts.items + length p.left.items)
    → length p.states.items ≡ length c.drafts.items → IfSome ruled (λ r. length r.states.items ≡ length c.drafts.items)
ruled_many c p None ruled is each same = subst (λ o. IfSome o (λ r. length r.states.items ≡ length c.drafts.items)) (sym is) tt
ruled_many c p (Some d) None is each same = absurd is
ruled_many c p (Some d) (Some r) is each same =
    let states = p.states.items in
    let all = each d refl in
    let marks : length r.hidden.items ≡ length states =
    ap length is.hidden ∙ length-map (take (length states) d.impacts) is_no_hit
    ∙ length-take-le (length states) d.impacts (omega (arith, all, same)) in
    ap length is.states ∙ masked_long r.hidden.items states marks ∙ same

module _ (policy : Policy) (choosing : Choosing) (reporting : Reporting) (roots : List (List ℕ)) (reporting_is : reporting ≡ hits_alone policy roots)
    (roots_are : roots ≡ choosing.roots) (v : MatchingVersion) (file : File) (now before : List Placed) (c : Half) (b : Baselines) (p : Paired)
    (h : AreTogether file now before c b) (q : IsPaired v c b p) (change : Option GatedChange) where
  alone : reporting ≡ hits_alone policy choosing.roots
  alone = reporting_is ∙ ap (hits_alone policy) roots_are

  pub mark_by : (narrowed : Option Narrowed) → AreNarrowed change policy c p narrowed
      → (conditions : Option (List GateCondition)) (decided : Option Decided) (ruled : Option RuledSides)
      → decided ≡ decided_by conditions (matched_in v file change now before) → IsRuledIf decided p ruled
      → (hits : List Finding) (marks given spread : List Bool)
      → hits ≡ told_in conditions (matched_in v file change now before) (Some reporting) (runs_by v file now before)
      → marks ≡ map (is_chosen choosing.choice) hits → given ≡ marks
      → spread ≡ spread_by ruled reporting c.drafts.items (states_by narrowed p) given
      → spread ≡ marks_by (decided_by conditions (matched_in v file change now before)) change (hits_alone policy choosing.roots) choosing.choice
      (current_runs v file now before)
  mark_by narrowed k None decided ruled decided_is ruled_is hits marks given spread hits_are marks_are given_is spread_are =
      let none : ruled ≡ None = subst (λ d. IsRuledIf d p ruled) decided_is ruled_is in
      mark_is policy choosing reporting roots reporting_is roots_are v file now before c b p h q change narrowed k hits marks given spread c.drafts.items
      (states_by narrowed p) hits_are marks_are given_is refl refl
      (spread_are ∙ ap (λ o. spread_by o reporting c.drafts.items (states_by narrowed p) given) none)
  mark_by narrowed k (Some cs) decided None decided_is ruled_is hits marks given spread hits_are marks_are given_is spread_are =
      absurd (subst (λ d. IsRuledIf d p None) decided_is ruled_is)
  mark_by narrowed k (Some cs) decided (Some ruled) decided_is ruled_is hits marks given spread hits_are marks_are given_is spread_are =
      let ruling = ruling_in cs (matched_in v file change now before) in
      let is : IsRuled ruling p ruled = subst (λ d. IsRuledIf d p (Some ruled)) decided_is ruled_is in
      spread_are
      ∙ ap (λ ss. spread_told (of_all reporting) c.drafts.items ss given 0)
      (is.states ∙ ap (λ hs. masked hs p.states.items)
      (is.hidden ∙ ap (λ k. others_among k ruling) (states_many v reporting choosing.choice file now before c b p h q)))
      ∙ spread_ruled v reporting choosing.choice file now before c b p h q change cs (ap (λ r. r.show) reporting_is) hits given hits_are
      (given_is ∙ marks_are)
      ∙ ap (λ r. marks_by (Some ruling) change r choosing.choice (current_runs v file now before)) alone

  pub misfit_is_by : (conditions : Option (List GateCondition)) (hits given : List Finding)
      → hits ≡ told_in conditions (matched_in v file change now before) (Some reporting) (runs_by v file now before) → given ≡ hits
      → misfit_by conditions (matched_in v file change now before) (hits_alone policy choosing.roots) choosing.choice (runs_by v file now before)
      ≡ option_map at_of (unfit_of choosing.choice given)
  misfit_is_by conditions hits given hits_are given_is =
      let m = matched_in v file change now before in
      ap (λ r. option_map at_of (unfit_of choosing.choice (told_in conditions m (Some r) (runs_by v file now before)))) (sym alone)
      ∙ ap (λ hs. option_map at_of (unfit_of choosing.choice hs)) (sym (given_is ∙ hits_are))
