-- The shown results, where only hits are shown: the hits among the reported results.
use Rattle.std.proofs.Common.{◌≡◌, ◌++◌, Bool, true, false, ◌&&◌, List, [], ◌∷◌, Option, Some, None, codes, if◌then◌else◌, refl, ap, sym, ◌∙◌}
use Rattle.std.specs.Prelude.{flat_map}
use Rattle.std.specs.List.{filter, filter_map, cons_option}
use Rattle.std.proofs.lemmas.List.Elements.{filter-append}
use Rattle.serde_json.specs.Data.{Data}
use Rattle.sarif_model.specs.declared.kinds.Level.{Level}
use Rattle.sarif_model.specs.declared.kinds.State.{State}
use Rattle.sarif_model.specs.Level.{is_at_least}
use Rattle.sarif_options.specs.Policy.{is_listed}
use Rattle.sarif_counts.specs.Impacts.{is_hit}
use Rattle.sarif_findings.specs.declared.finding.Finding.{Finding}
use Rattle.sarif_findings.specs.declared.reporting.Reporting.{Reporting}
use Rattle.sarif_findings.specs.declared.reporting.Show.TheVariants.{Hits, All}
use Rattle.sarif_findings.specs.Lookup.{elements_in}
use Rattle.sarif_findings.specs.Reported.{reported_of, reported_in, finding_if, finding_by, finding_of, is_active, level_in, state_in}
use Rattle.sarif_findings.proofs.HitsReported.{finding_hit}

abbrev counts : Finding → Bool
counts f = is_hit f.impact

abbrev hit_in : Option Finding → Option Finding
hit_in None = None
hit_in (Some f) = if counts f then Some f else None

added : (b : Bool) (f : Finding) (fs : List Finding) → cons_option (if b then Some f else None) fs ≡ (if b then f ∷ fs else fs)
added true f fs = refl
added false f fs = refl

module _ (reporting : Reporting) where
  abbrev alone : Reporting
  alone = record reporting { show = Hits }

  abbrev with_all : Reporting
  with_all = record reporting { show = All }

  same_finding : (run result : Data) (l : Level) (s : State) → finding_of alone run result l s ≡ finding_of with_all run result l s
  unfolding finding_of
  same_finding run result l s = refl

  chosen : (listed hit active : Bool) (f : Finding) → counts f ≡ hit
      → (if (listed && hit) && active then Some f else None) ≡ hit_in (if (listed && true) && active then Some f else None)
  chosen false hit active f e = refl
  chosen true true true f e = sym (ap (λ b. if b then Some f else None) e)
  chosen true false true f e = sym (ap (λ b. if b then Some f else None) e)
  chosen true true false f e = refl
  chosen true false false f e = refl

  by : (run result : Data) (ol : Option Level) (os : Option State) → finding_by alone run result ol os ≡ hit_in (finding_by with_all run result ol os)
  by run result None os = refl
  by run result (Some l) None = refl
  by run result (Some l) (Some s) =
      let hit = is_at_least reporting.policy.fail_on l in
      let listed = is_listed reporting.policy.states s in
      ap (λ f. if (listed && hit) && is_active result then Some f else None) (same_finding run result l s)
      ∙ chosen listed hit (is_active result) (finding_of with_all run result l s) (finding_hit with_all run result l s)

  one_more : (o : Option Finding) (fs : List Finding) → cons_option (hit_in o) (filter counts fs) ≡ filter counts (cons_option o fs)
  one_more None fs = refl
  one_more (Some f) fs = added (counts f) f (filter counts fs)

  in_results : (run : Data) (results : List Data) → filter_map (finding_if alone run) results ≡ filter counts (filter_map (finding_if with_all run) results)
  in_results run [] = refl
  in_results run (result ∷ results) =
      ap (λ o. cons_option o (filter_map (finding_if alone run) results)) (by run result (level_in result) (state_in result))
      ∙ ap (cons_option (hit_in (finding_if with_all run result))) (in_results run results)
      ∙ one_more (finding_if with_all run result) (filter_map (finding_if with_all run) results)

  in_runs : (runs : List Data) → flat_map (reported_in alone) runs ≡ filter counts (flat_map (reported_in with_all) runs)
  in_runs [] = refl
  in_runs (run ∷ runs) =
      ap (λ fs. fs ++ flat_map (reported_in alone) runs) (in_results run (elements_in (codes "results") run))
      ∙ ap (λ fs. filter counts (reported_in with_all run) ++ fs) (in_runs runs)
      ∙ sym (filter-append counts (reported_in with_all run) (flat_map (reported_in with_all) runs))

  pub hits_filtered : (log : Data) → reported_of alone log ≡ filter (λ f. is_hit f.impact) (reported_of with_all log)
  hits_filtered log = in_runs (elements_in (codes "runs") log)
