-- The shown results that are inside of a change: what is true of each, and how many they are.
use Rattle.std.proofs.Common.{◌≡◌, ◌+◌, ◌++◌, ℕ, Bool, true, false, not, ◌&&◌, cond, length, List, [], ◌∷◌, Option, Some, None, if◌then◌else◌, refl, ap, sym, ◌∙◌, arith}
use Rattle.std.specs.Prelude.{flat_map}
use Rattle.std.specs.List.{AllByRecursion, count_by, cons_option, filter, filter_map}
use Rattle.std.proofs.lemmas.List.Elements.{filter-append}
use Rattle.std.proofs.lemmas.List.Sums.{sum_by-append, sum_by-cons}
use Rattle.serde_json.specs.Data.{Data}
use Rattle.serde_json.specs.View.{items_of}
use Rattle.sarif_model.specs.declared.kinds.Level.{Level}
use Rattle.sarif_model.specs.declared.kinds.Level.TheVariants.{NoLevel, Note, Warning, Error}
use Rattle.sarif_model.specs.declared.kinds.State.{State}
use Rattle.sarif_model.specs.Level.{is_at_least}
use Rattle.sarif_model.specs.Run.{results_of, runs_of}
use Rattle.sarif_options.specs.declared.policy.Policy.{Policy}
use Rattle.sarif_options.specs.Policy.{is_listed}
use Rattle.sarif_counts.specs.Hits.{count_if, hits_of}
use Rattle.sarif_counts.specs.Impacts.{is_hit}
use Rattle.sarif_counts.specs.Tally.{same_side}
use Rattle.sarif_counts.specs.CountOf.{carries, count_in, suppresses, suppressions_in}
use Rattle.sarif_findings.specs.declared.finding.Finding.{Finding}
use Rattle.sarif_findings.specs.declared.reporting.Reporting.{Reporting}
use Rattle.sarif_findings.specs.declared.reporting.Show.{Show}
use Rattle.sarif_findings.specs.declared.reporting.Show.TheVariants.{Hits, All}
use Rattle.sarif_findings.specs.Reported.{finding_by, finding_if, finding_of, is_active, is_among, level_in, reported_in, reported_of, state_in}
use Rattle.sarif_findings.proofs.HitsAlone.{hits_filtered}
use Rattle.sarif_findings.proofs.HitsCounted.{hits_add, hits_in, hits_one, hits_same, hits_zero, one_of, zero_if}
use Rattle.sarif_findings.proofs.HitsReported.{all_reported, carried, finding_hit, hits_alone, hits_reported}
use Rattle.sarif_findings.proofs.ToldFindings.{IsTold, all_told}
use Rattle.sarif_scope.specs.Counted.{count_inside, for_reports, hits_by}
use Rattle.sarif_scope.specs.Inside.{is_inside, results_inside}
use Rattle.sarif_scope.specs.declared.gated.GatedChange.{GatedChange}
use Rattle.sarif_shown.specs.ReportedInside.{reported_by, reported_inside}

-- ---- what is true of all reported results is true of those inside

module _ (P : Finding → Type 0) where
  after : (o : Option Finding) (fs : List Finding) → AllByRecursion P (cons_option o fs) → AllByRecursion P fs
  after None fs h = h
  after (Some f) fs h = h.1

  again : (o : Option Finding) (fs gs : List Finding) → AllByRecursion P (cons_option o fs) → AllByRecursion P gs → AllByRecursion P (cons_option o gs)
  again None fs gs h rest = rest
  again (Some f) fs gs h rest = (h.0, rest)

  kept : (b : Bool) (find : Data → Option Finding) (fs : List Finding) (d : Data) (ds : List Data) → AllByRecursion P (cons_option (find d) fs)
      → AllByRecursion P (filter_map find ds) → AllByRecursion P (filter_map find (if b then d ∷ ds else ds))
  kept true find fs d ds h rest = again (find d) fs (filter_map find ds) h rest
  kept false find fs d ds h rest = rest

  among : (find : Data → Option Finding) (keeps : Data → Bool) (ds : List Data) → AllByRecursion P (filter_map find ds)
      → AllByRecursion P (filter_map find (filter keeps ds))
  among find keeps [] h = tt
  among find keeps (d ∷ ds) h =
      kept (keeps d) find (filter_map find ds) d (filter keeps ds) h (among find keeps ds (after (find d) (filter_map find ds) h))

  front : (fs gs : List Finding) → AllByRecursion P (fs ++ gs) → AllByRecursion P fs
  front [] gs h = tt
  front (f ∷ fs) gs h = (h.0, front fs gs h.1)

  end : (fs gs : List Finding) → AllByRecursion P (fs ++ gs) → AllByRecursion P gs
  end [] gs h = h
  end (f ∷ fs) gs h = end fs gs h.1

  both : (fs gs : List Finding) → AllByRecursion P fs → AllByRecursion P gs → AllByRecursion P (fs ++ gs)
  both [] gs h rest = rest
  both (f ∷ fs) gs h rest = (h.0, both fs gs h.1 rest)

  in_runs : (change : GatedChange) (reporting : Reporting) (runs : List Data) → AllByRecursion P (flat_map (reported_in reporting) runs)
      → AllByRecursion P (flat_map (reported_inside change reporting) runs)
  in_runs change reporting [] h = tt
  in_runs change reporting (run ∷ runs) h =
      let one : List Finding = reported_in reporting run in
      let rest : List Finding = flat_map (reported_in reporting) runs in
      both (reported_inside change reporting run) (flat_map (reported_inside change reporting) runs)
      (among (finding_if reporting run) (is_inside change run) (results_of run) (front one rest h))
      (in_runs change reporting runs (end one rest h))

  pub each_inside : (change : Option GatedChange) (reporting : Reporting) (log : Data) → AllByRecursion P (reported_of reporting log)
      → AllByRecursion P (reported_by change reporting log)
  each_inside None reporting log h = h
  each_inside (Some change) reporting log h = in_runs change reporting (runs_of log) h

pub told_inside : (change : Option GatedChange) (reporting : Reporting) (log : Data) → AllByRecursion IsTold (reported_by change reporting log)
told_inside change reporting log = each_inside IsTold change reporting log (all_told reporting log)

-- ---- how many they are

module _ (reporting : Reporting) (least : Level) (test : Finding → Bool)
    (passes : (run result : Data) (l : Level) (s : State)
    → (is_among reporting.show (is_at_least reporting.policy.fail_on l) && test (finding_of reporting run result l s)) ≡ is_at_least least l) where
  abbrev policy : Policy
  policy = record reporting.policy { fail_on = least }

  abbrev one_if : Option Finding → ℕ
  one_if None = 0
  one_if (Some f) = cond (test f) 1 0

  abbrev passed : List Finding → ℕ
  passed fs = count_by test fs

  told_by : (listed suppressed hit among : Bool) (f : Finding) → (among && test f) ≡ hit
      → count_if listed (count_if (hit && same_side false suppressed) 1) ≡ one_if (if (listed && among) && not suppressed then Some f else None)
  told_by false suppressed hit among f e = refl
  told_by true true true true f e = refl
  told_by true true true false f e = refl
  told_by true true false true f e = refl
  told_by true true false false f e = refl
  told_by true false hit false f e = ap (λ b. count_if (b && same_side false false) 1) (sym e)
  told_by true false true true f e = sym (ap (λ b. cond {A = ℕ} b 1 0) e)
  told_by true false false true f e = sym (ap (λ b. cond {A = ℕ} b 1 0) e)

  told : (run result : Data) (ol : Option Level) (os : Option State)
      → hits_in policy os ol (same_side false (suppresses (suppressions_in result))) ≡ one_if (finding_by reporting run result ol os)
  told run result None None = refl
  told run result None (Some s) = zero_if (is_listed reporting.policy.states s)
  told run result (Some l) None = refl
  told run result (Some l) (Some s) =
      told_by (is_listed reporting.policy.states s) (suppresses (suppressions_in result)) (is_at_least least l)
      (is_among reporting.show (is_at_least reporting.policy.fail_on l)) (finding_of reporting run result l s) (passes run result l s)

  one : (run result : Data)
      → hits_of (λ s l x. count_if (carries s l x result) 1) policy ≡ one_if (finding_if reporting run result)
  one run result =
      hits_same (λ s l x. count_if (carries s l x result) 1) (one_of (state_in result) (level_in result) (suppresses (suppressions_in result))) policy
      (λ s l. ap (λ b. count_if b 1) (carried s l result))
      ∙ hits_one policy (state_in result) (level_in result) (suppresses (suppressions_in result))
      ∙ told run result (level_in result) (state_in result)

  one_more : (o : Option Finding) (fs : List Finding) → passed (cons_option o fs) ≡ one_if o + passed fs
  one_more None fs = omega arith
  one_more (Some f) fs = sum_by-cons (λ g. cond (test g) 1 0) f fs

  in_results : (run : Data) (ds : List Data) → passed (filter_map (finding_if reporting run) ds) ≡ hits_of (count_in (items_of ds)) policy
  in_results run [] = sym (hits_zero policy)
  in_results run (d ∷ ds) =
      let first = one_more (finding_if reporting run d) (filter_map (finding_if reporting run) ds) in
      let whole = hits_add (λ s l x. count_if (carries s l x d) 1) (count_in (items_of ds)) policy in
      first ∙ ap (λ n. n + passed (filter_map (finding_if reporting run) ds)) (sym (one run d))
      ∙ ap (λ n. hits_of (λ s l x. count_if (carries s l x d) 1) policy + n) (in_results run ds) ∙ sym whole

  counted_in : (change : GatedChange) (runs : List Data)
      → passed (flat_map (reported_inside change reporting) runs) ≡ hits_of (count_inside change runs) policy
  counted_in change [] = sym (hits_zero policy)
  counted_in change (run ∷ runs) =
      let first = sum_by-append (λ f. cond (test f) 1 0) (reported_inside change reporting run) (flat_map (reported_inside change reporting) runs) in
      let whole = hits_add (count_in (items_of (results_inside change run))) (count_inside change runs) policy in
      first ∙ ap (λ n. n + passed (flat_map (reported_inside change reporting) runs)) (in_results run (results_inside change run))
      ∙ ap (λ n. hits_of (count_in (items_of (results_inside change run))) policy + n) (counted_in change runs) ∙ sym whole

-- ---- the hits among the shown results, and all of them

shown_hit : (show : Show) (hit : Bool) → (is_among show hit && hit) ≡ hit
shown_hit Hits true = refl
shown_hit Hits false = refl
shown_hit All hit = refl

pub hits_inside : (change : Option GatedChange) (reporting : Reporting) (log : Data)
    → count_by (λ f. is_hit f.impact) (reported_by change reporting log) ≡ hits_by change reporting.policy (runs_of log)
hits_inside None reporting log = hits_reported reporting log
hits_inside (Some change) reporting log =
    counted_in reporting reporting.policy.fail_on (λ f. is_hit f.impact)
    (λ run result l s. ap (λ b. is_among reporting.show (is_at_least reporting.policy.fail_on l) && b) (finding_hit reporting run result l s)
    ∙ shown_hit reporting.show (is_at_least reporting.policy.fail_on l)) change (runs_of log)

each_one : (fs : List Finding) → count_by (λ f. true) fs ≡ length fs
each_one [] = refl
each_one (f ∷ fs) = let first = sum_by-cons {X = Finding} (λ g. 1) f fs in let rest = each_one fs in omega (arith, first, rest)

always : (l : Level) → true ≡ is_at_least NoLevel l
always NoLevel = refl
always Note = refl
always Warning = refl
always Error = refl

-- all reported results are as many as the hits would be if each level counted
pub all_inside : (change : Option GatedChange) (reporting : Reporting) (log : Data)
    → length (reported_by change (record reporting { show = All }) log) ≡ hits_by change (for_reports reporting.policy) (runs_of log)
all_inside None reporting log = all_reported reporting log
all_inside (Some change) reporting log =
    sym (each_one (reported_by (Some change) (record reporting { show = All }) log))
    ∙ counted_in (record reporting { show = All }) NoLevel (λ f. true) (λ run result l s. always l) change (runs_of log)

shown_alone : (hit : Bool) → (hit && true) ≡ hit
shown_alone true = refl
shown_alone false = refl

-- with the hits alone, as many results are shown as there are hits
pub alone_inside : (change : Option GatedChange) (reporting : Reporting) (log : Data)
    → length (reported_by change (record reporting { show = Hits }) log) ≡ hits_by change reporting.policy (runs_of log)
alone_inside None reporting log = hits_alone reporting log
alone_inside (Some change) reporting log =
    sym (each_one (reported_by (Some change) (record reporting { show = Hits }) log))
    ∙ counted_in (record reporting { show = Hits }) reporting.policy.fail_on (λ f. true)
    (λ run result l s. shown_alone (is_at_least reporting.policy.fail_on l)) change (runs_of log)

-- ---- the hits alone

abbrev counts : Finding → Bool
counts f = is_hit f.impact

abbrev hit_in : Option Finding → Option Finding
hit_in None = None
hit_in (Some f) = if counts f then Some f else None

added : (b : Bool) (f : Finding) (fs : List Finding) → cons_option (if b then Some f else None) fs ≡ (if b then f ∷ fs else fs)
added true f fs = refl
added false f fs = refl

module _ (reporting : Reporting) where
  abbrev alone : Reporting
  alone = record reporting { show = Hits }

  abbrev with_all : Reporting
  with_all = record reporting { show = All }

  same_finding : (run result : Data) (l : Level) (s : State) → finding_of alone run result l s ≡ finding_of with_all run result l s
  unfolding finding_of
  same_finding run result l s = refl

  chosen : (listed hit active : Bool) (f : Finding) → counts f ≡ hit
      → (if (listed && hit) && active then Some f else None) ≡ hit_in (if (listed && true) && active then Some f else None)
  chosen false hit active f e = refl
  chosen true true true f e = sym (ap (λ b. if b then Some f else None) e)
  chosen true false true f e = sym (ap (λ b. if b then Some f else None) e)
  chosen true true false f e = refl
  chosen true false false f e = refl

  by : (run result : Data) (ol : Option Level) (os : Option State) → finding_by alone run result ol os ≡ hit_in (finding_by with_all run result ol os)
  by run result None os = refl
  by run result (Some l) None = refl
  by run result (Some l) (Some s) =
      let hit = is_at_least reporting.policy.fail_on l in
      let listed = is_listed reporting.policy.states s in
      ap (λ f. if (listed && hit) && is_active result then Some f else None) (same_finding run result l s)
      ∙ chosen listed hit (is_active result) (finding_of with_all run result l s) (finding_hit with_all run result l s)

  next : (o : Option Finding) (fs : List Finding) → cons_option (hit_in o) (filter counts fs) ≡ filter counts (cons_option o fs)
  next None fs = refl
  next (Some f) fs = added (counts f) f (filter counts fs)

  of_results : (run : Data) (results : List Data) → filter_map (finding_if alone run) results ≡ filter counts (filter_map (finding_if with_all run) results)
  of_results run [] = refl
  of_results run (result ∷ results) =
      ap (λ o. cons_option o (filter_map (finding_if alone run) results)) (by run result (level_in result) (state_in result))
      ∙ ap (cons_option (hit_in (finding_if with_all run result))) (of_results run results)
      ∙ next (finding_if with_all run result) (filter_map (finding_if with_all run) results)

  of_runs : (change : GatedChange) (runs : List Data)
      → flat_map (reported_inside change alone) runs ≡ filter counts (flat_map (reported_inside change with_all) runs)
  of_runs change [] = refl
  of_runs change (run ∷ runs) =
      ap (λ fs. fs ++ flat_map (reported_inside change alone) runs) (of_results run (results_inside change run))
      ∙ ap (λ fs. filter counts (reported_inside change with_all run) ++ fs) (of_runs change runs)
      ∙ sym (filter-append counts (reported_inside change with_all run) (flat_map (reported_inside change with_all) runs))

  pub filtered_inside : (change : Option GatedChange) (log : Data) → reported_by change alone log ≡ filter (λ f. is_hit f.impact) (reported_by change with_all log)
  filtered_inside None log = hits_filtered reporting log
  filtered_inside (Some change) log = of_runs change (runs_of log)
