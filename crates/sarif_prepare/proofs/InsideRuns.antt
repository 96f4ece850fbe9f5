-- The results that are reported, counted and marked by their drafts, without those outside of a change, are the results
-- that are reported, counted and marked in the runs of a merged log.
use Rattle.std.proofs.Common.{◌≡◌, ◌+◌, ◌++◌, ℕ, Bool, true, false, not, ◌&&◌, List, [], ◌∷◌, Option, Some, None, map, length, refl, sym, ap, ◌∙◌, arith}
use Rattle.std.specs.Option.{option_map_or}
use Rattle.std.specs.Prelude.{cond, filter, flat_map, if◌then◌else◌}
use Rattle.std.specs.List.{AllByRecursion, cons_option, filter_map}
use Rattle.serde_json.specs.Data.{Data}
use Rattle.serde_json.specs.View.{items_of}
use Rattle.sarif_choice.specs.Choice.{is_chosen}
use Rattle.sarif_choice.specs.declared.choice.Choice.{Choice}
use Rattle.sarif_counts.specs.CountOf.{carries, count_in}
use Rattle.sarif_counts.specs.Hits.{count_if}
use Rattle.sarif_counts.specs.Counts.{same_state}
use Rattle.sarif_counts.specs.Tally.{same_level, same_side}
use Rattle.sarif_findings.specs.Reported.{are_shown, finding_if, finding_of}
use Rattle.sarif_findings.specs.declared.finding.Finding.{Finding}
use Rattle.sarif_findings.specs.declared.reporting.Reporting.{Reporting}
use Rattle.sarif_log.specs.Internal.Copied.{mask, masked}
use Rattle.sarif_log.specs.Internal.Texts.{counts_as, tallied}
use Rattle.sarif_log.specs.MergedRuns.{merged_runs, written}
use Rattle.sarif_log.specs.Told.{reported_inside}
use Rattle.sarif_log.proofs.ResultCounts.{draft_counts}
use Rattle.sarif_model.specs.declared.kinds.Level.{Level}
use Rattle.sarif_model.specs.declared.kinds.State.{State}
use Rattle.sarif_model.specs.declared.record.Record.{Record}
use Rattle.sarif_model.specs.Run.{results_of, results_total}
use Rattle.sarif_outside.specs.Marks.{both}
use Rattle.sarif_prepare.specs.Chosen.{is_marked, marks_in}
use Rattle.sarif_prepare.specs.Hidden.{active_of}
use Rattle.sarif_prepare.specs.Internal.Marking.{marked_each}
use Rattle.sarif_prepare.specs.Internal.Telling.{own_results, told_as, told_each}
use Rattle.sarif_prepare.proofs.EachWritten.{each_on, later_in, later_on, runs_on, AreSame, IsThere, Later, Step}
use Rattle.sarif_prepare.proofs.InsideWritten.{written_inside}
use Rattle.sarif_prepare.proofs.ToldResults.{draft_told}
use Rattle.sarif_results.specs.declared.draft.Draft.{Draft}
use Rattle.sarif_results.specs.Drafts.{draft_by, drafts_by, members_in, IsRun, Listing}
use Rattle.sarif_scope.specs.Counted.{count_others}
use Rattle.sarif_scope.specs.Inside.{is_inside, is_outside_of}
use Rattle.sarif_scope.specs.declared.gated.GatedChange.{GatedChange}
use Rattle.sarif_suppress.specs.declared.suppressions.Applied.{Applied}

-- whether a result, with its run, is outside
abbrev pub out_of : GatedChange → Data × Data → Bool
out_of change found = is_outside_of change found.0 found.1

-- which of these results are active and outside
abbrev pub hidden_in : GatedChange → List (Data × Data) → List Draft → List Bool
hidden_in change ps ds = both (active_of ds) (map (out_of change) ps)

-- ---- one result

module _ (reporting : Reporting) (run d : Data) (draft : Draft) (state : State) where
  picked : (m : Bool) → told_as reporting run d draft (mask m (Some state)) ≡ (if m then None else told_as reporting run d draft (Some state))
  picked true = refl
  picked false = refl

  told_out : (suppressed shown out : Bool) (f : Finding)
      → (if not suppressed && out then None else (if shown && not suppressed then Some f else None))
      ≡ (if not out then (if shown && not suppressed then Some f else None) else None)
  told_out true true true f = refl
  told_out true false true f = refl
  told_out true true false f = refl
  told_out true false false f = refl
  told_out false shown true f = refl
  told_out false shown false f = refl

  told_masked : (out : Bool)
      → told_as reporting run d draft (mask (not draft.suppressed && out) (Some state))
      ≡ (if not out then told_as reporting run d draft (Some state) else None)
  told_masked out =
      picked (not draft.suppressed && out)
      ∙ told_out draft.suppressed (are_shown reporting state draft.level) out (finding_of reporting run d draft.level state)

module _ (draft : Draft) (state s : State) (l : Level) where
  picked_count : (m : Bool) → counts_as (mask m (Some state)) draft s l false ≡ (if m then 0 else counts_as (Some state) draft s l false)
  picked_count true = refl
  picked_count false = refl

  counted_out : (suppressed out a b : Bool)
      → (if not (not suppressed && out) then 0 else count_if (a && (b && same_side false suppressed)) 1)
      ≡ count_if (not (not out)) (count_if (a && (b && same_side false suppressed)) 1)
  counted_out true false a b = refl
  counted_out false false a b = refl
  counted_out false true a b = refl
  counted_out true true false b = refl
  counted_out true true true false = refl
  counted_out true true true true = refl

  counted_masked : (out : Bool)
      → counts_as (mask (not (not draft.suppressed && out)) (Some state)) draft s l false
      ≡ count_if (not (not out)) (counts_as (Some state) draft s l false)
  counted_masked out =
      picked_count (not (not draft.suppressed && out))
      ∙ counted_out draft.suppressed out (same_state s state) (same_level l draft.level)

front : {X : Type 0} (o : Option X) (xs ys zs : List X) → xs ≡ ys ++ zs → cons_option o xs ≡ cons_option o ys ++ zs
front None xs ys zs same = same
front (Some x) xs ys zs same = ap (λ ws. x ∷ ws) same

-- ---- the findings

module _ (change : GatedChange) (reporting : Reporting) where
  abbrev told_step : Step (List Finding)
  told_step run d draft state rest = cons_option (told_as reporting run d draft (mask (not draft.suppressed && is_outside_of change run d) state)) rest

  abbrev told_later : Later (List Finding)
  told_later run d rest = cons_option (if is_inside change run d then finding_if reporting run d else None) rest

  told_same : AreSame (List Finding) told_step told_later
  told_same written_in run listed applied r state d rest alike is there =
      ap (λ o. cons_option o rest)
      (told_masked reporting run d (draft_by listed applied r (members_in d)) state (is_outside_of change run d)
      ∙ ap (λ b. if b then told_as reporting run d (draft_by listed applied r (members_in d)) (Some state) else None)
      (sym (written_inside change written_in run listed r state d alike is there))
      ∙ ap (λ o. if is_inside change written_in (written listed r state d) then o else None)
      (draft_told reporting written_in run listed applied r state d alike is))

  told_steps : (ps : List (Data × Data)) (ds : List Draft) (ss : List (Option State))
      → told_each reporting ps ds (masked (hidden_in change ps ds) ss) ≡ each_on (List Finding) told_step ps ds ss []
  told_steps [] ds ss = refl
  told_steps (p ∷ ps) [] ss = refl
  told_steps (p ∷ ps) (d ∷ ds) [] = refl
  told_steps (p ∷ ps) (d ∷ ds) (s ∷ ss) =
      ap (cons_option (told_as reporting p.0 p.1 d (mask (not d.suppressed && is_outside_of change p.0 p.1) s))) (told_steps ps ds ss)

  told_more : (run x : Data) (kept : List Data) (inside : Bool) (made rest : List Finding) → made ≡ filter_map (finding_if reporting run) kept ++ rest
      → cons_option (if inside then finding_if reporting run x else None) made
      ≡ filter_map (finding_if reporting run) (cond inside (x ∷ kept) kept) ++ rest
  told_more run x kept true made rest h = front (finding_if reporting run x) made (filter_map (finding_if reporting run) kept) rest h
  told_more run x kept false made rest h = h

  told_in : (run : Data) (xs : List Data) (rest : List Finding)
      → later_in (List Finding) told_later run xs rest ≡ filter_map (finding_if reporting run) (filter (is_inside change run) xs) ++ rest
  told_in run [] rest = refl
  told_in run (x ∷ xs) rest =
      told_more run x (filter (is_inside change run) xs) (is_inside change run x) (later_in (List Finding) told_later run xs rest) rest
      (told_in run xs rest)

  told_on : (runs : List Data) → later_on (List Finding) told_later runs [] ≡ flat_map (reported_inside change reporting) runs
  told_on [] = refl
  told_on (run ∷ runs) =
      told_in run (results_of run) (later_on (List Finding) told_later runs [])
      ∙ ap (λ fs. reported_inside change reporting run ++ fs) (told_on runs)

  pub inside_told : (listed : Listing) (applied : Record → Applied) (rs : List Record) (ss : List State) (runs : List Data)
      → AllByRecursion IsRun runs → length rs ≡ results_total runs → length ss ≡ length rs → AllByRecursion IsThere ss
      → told_each reporting (flat_map own_results runs) (drafts_by listed applied rs (flat_map results_of runs))
      (masked (hidden_in change (flat_map own_results runs) (drafts_by listed applied rs (flat_map results_of runs))) (map Some ss))
      ≡ flat_map (reported_inside change reporting) (merged_runs listed rs ss runs)
  inside_told listed applied rs ss runs are same_r same_s there =
      told_steps (flat_map own_results runs) (drafts_by listed applied rs (flat_map results_of runs)) (map Some ss)
      ∙ runs_on (List Finding) told_step told_later told_same listed applied rs ss runs [] are same_r same_s there
      ∙ told_on (merged_runs listed rs ss runs)

-- ---- the marks of chosen hits

module _ (change : GatedChange) (reporting : Reporting) (choice : Choice) where
  abbrev marked_step : Step (List Bool)
  marked_step run d draft state rest =
      option_map_or (is_chosen choice) (told_as reporting run d draft (mask (not draft.suppressed && is_outside_of change run d) state)) false ∷ rest

  abbrev marked_later : Later (List Bool)
  marked_later run d rest = is_marked (Some change) reporting choice run d ∷ rest

  marked_if : (inside : Bool) (o : Option Finding)
      → option_map_or (is_chosen choice) (if inside then o else None) false ≡ (inside && option_map_or (is_chosen choice) o false)
  marked_if true o = refl
  marked_if false o = refl

  marked_same : AreSame (List Bool) marked_step marked_later
  marked_same written_in run listed applied r state d rest alike is there =
      let draft = draft_by listed applied r (members_in d) in
      ap (λ b. b ∷ rest)
      (ap (λ o. option_map_or (is_chosen choice) o false) (told_masked reporting run d draft state (is_outside_of change run d))
      ∙ marked_if (not (is_outside_of change run d)) (told_as reporting run d draft (Some state))
      ∙ ap (λ b. b && option_map_or (is_chosen choice) (told_as reporting run d draft (Some state)) false)
      (sym (written_inside change written_in run listed r state d alike is there))
      ∙ ap (λ o. is_inside change written_in (written listed r state d) && option_map_or (is_chosen choice) o false)
      (draft_told reporting written_in run listed applied r state d alike is))

  marked_steps : (ps : List (Data × Data)) (ds : List Draft) (ss : List (Option State))
      → marked_each reporting choice ps ds (masked (hidden_in change ps ds) ss) ≡ each_on (List Bool) marked_step ps ds ss []
  marked_steps [] ds ss = refl
  marked_steps (p ∷ ps) [] ss = refl
  marked_steps (p ∷ ps) (d ∷ ds) [] = refl
  marked_steps (p ∷ ps) (d ∷ ds) (s ∷ ss) =
      ap (λ l. option_map_or (is_chosen choice) (told_as reporting p.0 p.1 d (mask (not d.suppressed && is_outside_of change p.0 p.1) s)) false ∷ l)
      (marked_steps ps ds ss)

  marked_in : (run : Data) (xs : List Data) (rest : List Bool)
      → later_in (List Bool) marked_later run xs rest ≡ map (is_marked (Some change) reporting choice run) xs ++ rest
  marked_in run [] rest = refl
  marked_in run (x ∷ xs) rest = ap (λ l. is_marked (Some change) reporting choice run x ∷ l) (marked_in run xs rest)

  marked_on : (runs : List Data) → later_on (List Bool) marked_later runs [] ≡ marks_in (Some change) reporting choice runs
  marked_on [] = refl
  marked_on (run ∷ runs) =
      marked_in run (results_of run) (later_on (List Bool) marked_later runs [])
      ∙ ap (λ l. map (is_marked (Some change) reporting choice run) (results_of run) ++ l) (marked_on runs)

  pub inside_marked : (listed : Listing) (applied : Record → Applied) (rs : List Record) (ss : List State) (runs : List Data)
      → AllByRecursion IsRun runs → length rs ≡ results_total runs → length ss ≡ length rs → AllByRecursion IsThere ss
      → marked_each reporting choice (flat_map own_results runs) (drafts_by listed applied rs (flat_map results_of runs))
      (masked (hidden_in change (flat_map own_results runs) (drafts_by listed applied rs (flat_map results_of runs))) (map Some ss))
      ≡ marks_in (Some change) reporting choice (merged_runs listed rs ss runs)
  inside_marked listed applied rs ss runs are same_r same_s there =
      marked_steps (flat_map own_results runs) (drafts_by listed applied rs (flat_map results_of runs)) (map Some ss)
      ∙ runs_on (List Bool) marked_step marked_later marked_same listed applied rs ss runs [] are same_r same_s there
      ∙ marked_on (merged_runs listed rs ss runs)

-- ---- the active results that aren't inside, counted

module _ (change : GatedChange) (s : State) (l : Level) where
  abbrev counted_step : Step ℕ
  counted_step run d draft state rest = counts_as (mask (not (not draft.suppressed && is_outside_of change run d)) state) draft s l false + rest

  abbrev counted_later : Later ℕ
  counted_later run d rest = count_if (not (is_inside change run d)) (count_if (carries s l false d) 1) + rest

  counted_same : AreSame ℕ counted_step counted_later
  counted_same written_in run listed applied r state d rest alike is there =
      ap (λ n. n + rest)
      (counted_masked (draft_by listed applied r (members_in d)) state s l (is_outside_of change run d)
      ∙ ap (λ b. count_if (not b) (counts_as (Some state) (draft_by listed applied r (members_in d)) s l false))
      (sym (written_inside change written_in run listed r state d alike is there))
      ∙ ap (count_if (not (is_inside change written_in (written listed r state d)))) (draft_counts listed applied r state d s l false is))

  counted_steps : (ps : List (Data × Data)) (ds : List Draft) (ss : List (Option State)) → length ps ≡ length ds
      → tallied ds (masked (map not (hidden_in change ps ds)) ss) s l false ≡ each_on ℕ counted_step ps ds ss 0
  counted_steps [] [] ss same = refl
  counted_steps [] (d ∷ ds) ss same = absurd (omega (arith, same))
  counted_steps (p ∷ ps) [] ss same = refl
  counted_steps (p ∷ ps) (d ∷ ds) [] same = refl
  counted_steps (p ∷ ps) (d ∷ ds) (x ∷ ss) same =
      ap (λ n. counts_as (mask (not (not d.suppressed && is_outside_of change p.0 p.1)) x) d s l false + n)
      (counted_steps ps ds ss (omega (arith, same)))

  counted_more : (x : Data) (kept : List Data) (others : Bool) (made rest : ℕ) → made ≡ count_in (items_of kept) s l false + rest
      → count_if others (count_if (carries s l false x) 1) + made ≡ count_in (items_of (cond others (x ∷ kept) kept)) s l false + rest
  counted_more x kept true made rest h = omega (arith, h)
  counted_more x kept false made rest h = omega (arith, h)

  counted_in : (run : Data) (xs : List Data) (rest : ℕ)
      → later_in ℕ counted_later run xs rest ≡ count_in (items_of (filter (λ d. not (is_inside change run d)) xs)) s l false + rest
  counted_in run [] rest = omega arith
  counted_in run (x ∷ xs) rest =
      counted_more x (filter (λ d. not (is_inside change run d)) xs) (not (is_inside change run x)) (later_in ℕ counted_later run xs rest) rest
      (counted_in run xs rest)

  counted_on : (runs : List Data) → later_on ℕ counted_later runs 0 ≡ count_others change runs s l false
  counted_on [] = refl
  counted_on (run ∷ runs) =
      counted_in run (results_of run) (later_on ℕ counted_later runs 0)
      ∙ ap (λ n. count_in (items_of (filter (λ d. not (is_inside change run d)) (results_of run))) s l false + n) (counted_on runs)

  pub others_counted : (listed : Listing) (applied : Record → Applied) (rs : List Record) (ss : List State) (runs : List Data)
      → AllByRecursion IsRun runs → length rs ≡ results_total runs → length ss ≡ length rs → AllByRecursion IsThere ss
      → length (flat_map own_results runs) ≡ length (drafts_by listed applied rs (flat_map results_of runs))
      → tallied (drafts_by listed applied rs (flat_map results_of runs))
      (masked (map not (hidden_in change (flat_map own_results runs) (drafts_by listed applied rs (flat_map results_of runs)))) (map Some ss)) s l false
      ≡ count_others change (merged_runs listed rs ss runs) s l false
  others_counted listed applied rs ss runs are same_r same_s there long =
      counted_steps (flat_map own_results runs) (drafts_by listed applied rs (flat_map results_of runs)) (map Some ss) long
      ∙ runs_on ℕ counted_step counted_later counted_same listed applied rs ss runs 0 are same_r same_s there
      ∙ counted_on (merged_runs listed rs ss runs)
