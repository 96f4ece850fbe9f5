-- The number of shown results, and of the hits among them.
use Rattle.std.proofs.Common.{◌≡◌, ◌+◌, ℕ, Bool, true, false, not, ◌&&◌, cond, length, List, [], ◌∷◌, Option, Some, None, codes, if◌then◌else◌, refl, ap, sym, ◌∙◌, arith}
use Rattle.std.specs.Prelude.{option_and_then, flat_map}
use Rattle.std.specs.List.{count_by, filter_map, cons_option}
use Rattle.std.proofs.lemmas.List.Sums.{sum_by-append, sum_by-cons}
use Rattle.serde_json.specs.Data.{Data, Items, no_items, item}
use Rattle.serde_json.specs.Find.{get, as_str, as_array}
use Rattle.sarif_model.specs.declared.kinds.Level.{Level}
use Rattle.sarif_model.specs.declared.kinds.Level.TheVariants.{NoLevel, Note, Warning, Error}
use Rattle.sarif_model.specs.declared.kinds.State.{State}
use Rattle.sarif_model.specs.Level.{level_name}
use Rattle.sarif_model.specs.Members.{elements}
use Rattle.sarif_model.specs.Run.{elements_or_none}
use Rattle.sarif_model.specs.Run.{runs_of}
use Rattle.sarif_model.specs.Level.{is_at_least}
use Rattle.sarif_options.specs.declared.policy.Policy.{Policy}
use Rattle.sarif_options.specs.Policy.{is_listed}
use Rattle.sarif_counts.specs.declared.gate_verdict.Impact.TheVariants as impacts
use Rattle.sarif_counts.specs.Hits.{count_if, hits_of}
use Rattle.sarif_counts.specs.Impacts.{is_hit}
use Rattle.sarif_counts.specs.Tally.{same_side}
use Rattle.sarif_counts.specs.CountOf.{carries, count_in, count_of, results_in, suppresses, suppressions_in}
use Rattle.sarif_model.specs.Run.{is_text}
use Rattle.sarif_model.proofs.Elements.{items_or_none}
use Rattle.sarif_findings.specs.declared.finding.Finding.{Finding}
use Rattle.sarif_findings.specs.declared.reporting.Reporting.{Reporting}
use Rattle.sarif_findings.specs.declared.reporting.Show.{Show}
use Rattle.sarif_findings.specs.declared.reporting.Show.TheVariants.{Hits, All}
use Rattle.sarif_findings.specs.Reported.{reported_of, reported_in, finding_if, finding_by, finding_of, is_among, level_in, state_in}
use Rattle.sarif_findings.proofs.ReportedMore.{items_in_array}
use Rattle.sarif_findings.proofs.HitsCounted.{state_tells, level_tells, hits_add, hits_zero, hits_same, zero_if, hits_one, is_state, is_level, one_of, hits_in}

-- what a result adds to a count, by the state and the level that it has
pub carried : (s : State) (l : Level) (result : Data)
    → carries s l false result ≡ (is_state s (state_in result) && (is_level l (level_in result) && same_side false (suppresses (suppressions_in result))))
carried s l result =
    let state = state_tells s (option_and_then as_str (get (codes "baselineState") result)) in
    let level = level_tells l (option_and_then as_str (get (codes "level") result)) in
    ap (λ b. b && (is_text (level_name l) (option_and_then as_str (get (codes "level") result)) && same_side false (suppresses (suppressions_in result)))) state
    ∙ ap (λ b. is_state s (state_in result) && (b && same_side false (suppresses (suppressions_in result)))) level

hit_if : (hit : Bool) → is_hit (if hit then impacts.Hit else impacts.None) ≡ hit
hit_if true = refl
hit_if false = refl

pub finding_hit : (reporting : Reporting) (run result : Data) (l : Level) (s : State)
    → is_hit (finding_of reporting run result l s).impact ≡ is_at_least reporting.policy.fail_on l
unfolding finding_of
finding_hit reporting run result l s = hit_if (is_at_least reporting.policy.fail_on l)

pub elements_there : (o : Option Items) → elements_or_none o ≡ elements (items_or_none o)
elements_there None = refl
elements_there (Some ds) = refl

-- ---- the shown results that pass a test are as many as the hits of a gate with another level

module _ (reporting : Reporting) (least : Level) (test : Finding → Bool)
    (passes : (run result : Data) (l : Level) (s : State)
    → (is_among reporting.show (is_at_least reporting.policy.fail_on l) && test (finding_of reporting run result l s)) ≡ is_at_least least l) where
  abbrev policy : Policy
  policy = record reporting.policy { fail_on = least }

  abbrev one_if : Option Finding → ℕ
  one_if None = 0
  one_if (Some f) = cond (test f) 1 0

  abbrev passed : List Finding → ℕ
  passed fs = count_by test fs

  told_by : (listed suppressed hit among : Bool) (f : Finding) → (among && test f) ≡ hit
      → count_if listed (count_if (hit && same_side false suppressed) 1) ≡ one_if (if (listed && among) && not suppressed then Some f else None)
  told_by false suppressed hit among f e = refl
  told_by true true true true f e = refl
  told_by true true true false f e = refl
  told_by true true false true f e = refl
  told_by true true false false f e = refl
  told_by true false hit false f e = ap (λ b. count_if (b && same_side false false) 1) (sym e)
  told_by true false true true f e = sym (ap (λ b. cond {A = ℕ} b 1 0) e)
  told_by true false false true f e = sym (ap (λ b. cond {A = ℕ} b 1 0) e)

  told : (run result : Data) (ol : Option Level) (os : Option State)
      → hits_in policy os ol (same_side false (suppresses (suppressions_in result))) ≡ one_if (finding_by reporting run result ol os)
  told run result None None = refl
  told run result None (Some s) = zero_if (is_listed reporting.policy.states s)
  told run result (Some l) None = refl
  told run result (Some l) (Some s) =
      told_by (is_listed reporting.policy.states s) (suppresses (suppressions_in result)) (is_at_least least l)
      (is_among reporting.show (is_at_least reporting.policy.fail_on l)) (finding_of reporting run result l s) (passes run result l s)

  one : (run result : Data)
      → hits_of (λ s l x. count_if (carries s l x result) 1) policy ≡ one_if (finding_if reporting run result)
  one run result =
      hits_same (λ s l x. count_if (carries s l x result) 1) (one_of (state_in result) (level_in result) (suppresses (suppressions_in result))) policy
      (λ s l. ap (λ b. count_if b 1) (carried s l result))
      ∙ hits_one policy (state_in result) (level_in result) (suppresses (suppressions_in result))
      ∙ told run result (level_in result) (state_in result)

  one_more : (o : Option Finding) (fs : List Finding) → passed (cons_option o fs) ≡ one_if o + passed fs
  one_more None fs = omega arith
  one_more (Some f) fs = sum_by-cons (λ g. cond (test g) 1 0) f fs

  in_items : (run : Data) (ds : Items) → passed (filter_map (finding_if reporting run) (elements ds)) ≡ hits_of (count_in ds) policy
  in_items run no_items = sym (hits_zero policy)
  in_items run (item d ds) =
      let first = one_more (finding_if reporting run d) (filter_map (finding_if reporting run) (elements ds)) in
      let single = one run d in
      let rest = in_items run ds in
      let whole = hits_add (λ s l x. count_if (carries s l x d) 1) (count_in ds) policy in
      first ∙ ap (λ n. n + passed (filter_map (finding_if reporting run) (elements ds))) (sym single)
      ∙ ap (λ n. hits_of (λ s l x. count_if (carries s l x d) 1) policy + n) rest ∙ sym whole

  in_run : (run : Data) → passed (reported_in reporting run) ≡ hits_of (count_in (results_in run)) policy
  in_run run =
      ap (λ ds. passed (filter_map (finding_if reporting run) ds)) (elements_there (option_and_then as_array (get (codes "results") run)))
      ∙ in_items run (items_or_none (option_and_then as_array (get (codes "results") run)))
      ∙ ap (λ ds. hits_of (count_in ds) policy) (sym (items_in_array (get (codes "results") run)))

  in_runs : (runs : List Data) → passed (flat_map (reported_in reporting) runs) ≡ hits_of (count_of runs) policy
  in_runs [] = sym (hits_zero policy)
  in_runs (run ∷ runs) =
      let first = sum_by-append (λ f. cond (test f) 1 0) (reported_in reporting run) (flat_map (reported_in reporting) runs) in
      let whole = hits_add (count_in (results_in run)) (count_of runs) policy in
      first ∙ ap (λ n. n + passed (flat_map (reported_in reporting) runs)) (in_run run)
      ∙ ap (λ n. hits_of (count_in (results_in run)) policy + n) (in_runs runs) ∙ sym whole

  counted : (log : Data) → passed (reported_of reporting log) ≡ hits_of (count_of (runs_of log)) policy
  counted log = in_runs (runs_of log)

-- ---- the hits among the shown results, and all of them

shown_hit : (show : Show) (hit : Bool) → (is_among show hit && hit) ≡ hit
shown_hit Hits true = refl
shown_hit Hits false = refl
shown_hit All hit = refl

pub hits_reported : (reporting : Reporting) (log : Data) → count_by (λ f. is_hit f.impact) (reported_of reporting log) ≡ hits_of (count_of (runs_of log)) reporting.policy
hits_reported reporting log =
    counted reporting reporting.policy.fail_on (λ f. is_hit f.impact)
    (λ run result l s. ap (λ b. is_among reporting.show (is_at_least reporting.policy.fail_on l) && b) (finding_hit reporting run result l s)
    ∙ shown_hit reporting.show (is_at_least reporting.policy.fail_on l)) log

each_one : (fs : List Finding) → count_by (λ f. true) fs ≡ length fs
each_one [] = refl
each_one (f ∷ fs) = let first = sum_by-cons {X = Finding} (λ g. 1) f fs in let rest = each_one fs in omega (arith, first, rest)

always : (l : Level) → true ≡ is_at_least NoLevel l
always NoLevel = refl
always Note = refl
always Warning = refl
always Error = refl

-- all reported results are as many as the hits would be if each level counted
pub all_reported : (reporting : Reporting) (log : Data)
    → length (reported_of (record reporting { show = All }) log) ≡ hits_of (count_of (runs_of log)) (record reporting.policy { fail_on = NoLevel })
all_reported reporting log =
    sym (each_one (reported_of (record reporting { show = All }) log))
    ∙ counted (record reporting { show = All }) NoLevel (λ f. true) (λ run result l s. always l) log

shown_alone : (hit : Bool) → (hit && true) ≡ hit
shown_alone true = refl
shown_alone false = refl

-- with the hits alone, as many results are shown as there are hits
pub hits_alone : (reporting : Reporting) (log : Data)
    → length (reported_of (record reporting { show = Hits }) log) ≡ hits_of (count_of (runs_of log)) reporting.policy
hits_alone reporting log =
    sym (each_one (reported_of (record reporting { show = Hits }) log))
    ∙ counted (record reporting { show = Hits }) reporting.policy.fail_on (λ f. true)
    (λ run result l s. shown_alone (is_at_least reporting.policy.fail_on l)) log
