-- The findings of a merge with a policy are those of the results that its conditions report.
use Rattle.std.proofs.Common.{◌≡◌, ℕ, ◌+◌, Bool, List, [], ◌∷◌, ◌++◌, length, length-append, map, not, Option, Some, refl, sym, ap, ap₂, ◌∙◌}
use Rattle.std.proofs.lemmas.List.{length-map, map-append}
use Rattle.std.proofs.lemmas.List.Elements.{filter-append}
use Rattle.std.proofs.lemmas.List.Concat.{flat_map-append}
use Rattle.std.specs.Prelude.{flat_map}
use Rattle.serde_json.specs.Data.{Data}
use Rattle.sarif_conditions.specs.Decided.{impact_of}
use Rattle.sarif_conditions.specs.Judged.{Judged}
use Rattle.sarif_counts.specs.declared.gate_verdict.Impact.{Impact}
use Rattle.sarif_deciding.specs.Matched.{Matched}
use Rattle.sarif_deciding.specs.Results.{absent_results, absent_seen, current_results, current_seen, for_each, results_in}
use Rattle.sarif_deciding.proofs.Unmarked.{unmarked_long}
use Rattle.sarif_entries.specs.File.{File}
use Rattle.sarif_evidence.specs.declared.version.MatchingVersion.{MatchingVersion}
use Rattle.sarif_findings.specs.Reported.{reported_in}
use Rattle.sarif_findings.specs.declared.finding.Finding.{Finding}
use Rattle.sarif_findings.specs.declared.reporting.Reporting.{Reporting}
use Rattle.sarif_log.specs.LogBy.{current_runs, leftover_runs, limited_records, listing_of, runs_by, taken_of}
use Rattle.sarif_log.specs.Told.{told_of}
use Rattle.sarif_log.proofs.Limits.{limited_long}
use Rattle.sarif_log.proofs.Sides.{drafts_long, results_long, states_long, taken_long}
use Rattle.sarif_match.specs.Partners.{partners_in}
use Rattle.sarif_model.specs.declared.kinds.State.{State}
use Rattle.sarif_model.specs.declared.kinds.State.TheVariants.{Absent}
use Rattle.sarif_model.specs.Run.{present, results_of, results_total}
use Rattle.sarif_policy.specs.declared.condition.GateCondition.{GateCondition}
use Rattle.sarif_prepare.specs.Internal.Leftover.{not_taken}
use Rattle.sarif_prepare.specs.Internal.Telling.{own_results, pair_at, present_in, told_each, with_run}
use Rattle.sarif_prepare.specs.Ruled.{drafts_before, matched_in}
use Rattle.sarif_prepare.specs.Told.{active_impacts, active_in, of_all, told_ruled}
use Rattle.sarif_prepare.proofs.RuledLong.{absent_each, current_each}
use Rattle.sarif_prepare.proofs.ShownImpacts.{active_long, no_impact}
use Rattle.sarif_prepare.proofs.ToldRuled.{active_as}
use Rattle.sarif_prepare.proofs.ToldRuns.{pairs_of_all, runs_told, untaken_told}
use Rattle.sarif_prepare.proofs.Untaken.{untaken_is}
use Rattle.sarif_read.specs.Unmarked.{unmarked}
use Rattle.sarif_results.specs.Drafts.{applied_of, unapplied}
use Rattle.sarif_results.specs.declared.draft.Draft.{Draft}
use Rattle.sarif_runs.specs.Internal.Spots.{spots_from}
use Rattle.sarif_runs.specs.Judging.{records_of, run_values}
use Rattle.sarif_runs.specs.Placed.{Placed}
use Rattle.sarif_scope.specs.declared.gated.GatedChange.{GatedChange}
use Rattle.sarif_shown.specs.PolicyLaws.{AreRuled}
use Rattle.sarif_laws_policy.specs.HaveRecords.{HaveRecords}
use Rattle.sarif_laws_policy.proofs.ShownImpacts as shown

-- as many results with their runs as results
abbrev pair_of : Data → Data → Data × Data
pair_of run d = (run, d)

pairs_many : (of : Data → List Data) (runs : List Data) → length (flat_map (λ run. with_run run (of run)) runs) ≡ length (flat_map of runs)
pairs_many of [] = refl
pairs_many of (run ∷ runs) =
    length-append (with_run run (of run)) (flat_map (λ run. with_run run (of run)) runs)
    ∙ ap₂ (λ (n k : ℕ). n + k) (length-map (of run) (pair_of run)) (pairs_many of runs)
    ∙ sym (length-append (of run) (flat_map of runs))

absent_states : (ds : List Draft) → map (λ _. Some Absent) ds ≡ map Some (map (λ _. Absent) ds)
absent_states [] = refl
absent_states (d ∷ ds) = ap (λ ss. Some Absent ∷ ss) (absent_states ds)

module _ (v : MatchingVersion) (file : File) (change : Option GatedChange) (now before : List Placed) (cs : List GateCondition) (h : HaveRecords now before) where
  abbrev m : Matched
  m = matched_in v file change now before

  abbrev runs : List Data
  runs = run_values now

  abbrev olds : List Data
  olds = run_values before

  abbrev pairs : List (Data × Data)
  pairs = flat_map own_results runs

  abbrev taken : List Bool
  taken = taken_of v (records_of now) (records_of before)

  -- ---- how many there are

  total : length (limited_records file now) ≡ results_total runs
  total = limited_long file (records_of now) ∙ h.inputs ∙ results_long runs

  pub drafts_many : length m.drafts ≡ length m.records
  drafts_many = drafts_long (listing_of file) (applied_of file) (limited_records file now) (flat_map results_of runs) (total ∙ sym (results_long runs))

  pub states_many : length m.states ≡ length m.records
  states_many =
      states_long v (records_of before) (partners_in v (records_of now) (records_of before)) 0 (records_of now) ∙ sym (limited_long file (records_of now))

  drafts_pairs : length m.drafts ≡ length pairs
  drafts_pairs = drafts_many ∙ total ∙ sym (results_long runs) ∙ sym (pairs_many results_of runs)

  pub drafts_spots : length m.drafts ≡ length (spots_from 0 now)
  drafts_spots = drafts_pairs ∙ ap length (sym (pairs_of_all now)) ∙ length-map (spots_from 0 now) (pair_at now)

  olds_many : length (drafts_before before) ≡ length (records_of before)
  olds_many = drafts_long (λ _ own. own) unapplied (records_of before) (flat_map (λ run. present (results_of run)) olds) h.baselines

  olds_pairs : length (flat_map present_in olds) ≡ length (records_of before)
  olds_pairs = pairs_many (λ run. present (results_of run)) olds ∙ sym h.baselines

  taken_many : length taken ≡ length (records_of before)
  taken_many = taken_long v (records_of now) (records_of before)

  left_many : length m.left ≡ length (unmarked m.taken m.known)
  left_many = unmarked_long taken (drafts_before before) (records_of before) olds_many

  abbrev others : List (Data × Data)
  others = not_taken taken (flat_map present_in olds)

  left_pairs : length m.left ≡ length others
  left_pairs =
      unmarked_long taken (drafts_before before) (flat_map present_in olds) (olds_many ∙ sym olds_pairs)
      ∙ ap length (sym (untaken_is taken (flat_map present_in olds)))

  pub current_many : length (current_results cs m) ≡ length m.drafts
  current_many = current_each cs m (sym drafts_many) (states_many ∙ sym drafts_many) drafts_spots

  absent_many : length (absent_results cs m) ≡ length m.left
  absent_many = absent_each cs m left_many olds_pairs

  module _ (reporting : Reporting) where
    abbrev all : Reporting
    all = of_all reporting

    -- ---- the findings of all active results

    abbrev ys : List State
    ys = map (λ _. Absent) m.left

    abbrev found_now : List Finding
    found_now = told_each all pairs m.drafts (map Some m.states)

    abbrev found_gone : List Finding
    found_gone = told_each all others m.left (map Some ys)

    told_now : flat_map (reported_in all) (current_runs v file now before) ≡ found_now
    told_now =
        sym (runs_told all (listing_of file) (applied_of file) (limited_records file now) m.states runs h.inputs_are_runs total states_many)

    told_gone : flat_map (reported_in all) (leftover_runs v now before) ≡ found_gone
    told_gone =
        sym (untaken_told all (records_of before) taken olds h.baselines_are_runs h.baselines taken_many (olds_pairs ∙ sym taken_many) (olds_many ∙ sym taken_many))
        ∙ ap (λ ds. told_each all others ds (map (λ _. Some Absent) ds)) (untaken_is taken (drafts_before before))
        ∙ ap (told_each all others m.left) (absent_states m.left)

    told_all : told_of (Some all) (runs_by v file now before) ≡ found_now ++ found_gone
    told_all =
        flat_map-append (reported_in all) (current_runs v file now before) (leftover_runs v now before)
        ∙ ap₂ (λ fs gs. fs ++ gs) told_now told_gone

    -- ---- as many as active results

    abbrev does : Judged → Option Impact
    does = impact_of cs (results_in cs m)

    abbrev rs : List Judged
    rs = current_results cs m

    abbrev qs : List Judged
    qs = absent_results cs m

    long_now : length found_now ≡ length (map does (active_in rs))
    long_now =
        active_long reporting.show reporting does (no_impact cs (results_in cs m)) pairs m.drafts m.states rs drafts_pairs
        (states_many ∙ sym drafts_many ∙ drafts_pairs) (current_many ∙ drafts_pairs) (active_as m.records m.states m.drafts (current_seen cs m))

    long_gone : length found_gone ≡ length (map does (active_in qs))
    long_gone =
        active_long reporting.show reporting does (no_impact cs (results_in cs m)) others m.left ys qs left_pairs
        (length-map m.left (λ _. Absent) ∙ left_pairs) (absent_many ∙ left_pairs)
        (active_as (unmarked m.taken m.known) (for_each Absent m.left) m.left (absent_seen cs m))

    active_both : active_impacts cs m ≡ map does (active_in rs) ++ map does (active_in qs)
    active_both = ap (map does) (filter-append (λ r. not r.suppressed) rs qs) ∙ map-append does (active_in rs) (active_in qs)

    long_all : length (told_of (Some all) (runs_by v file now before)) ≡ length (active_impacts cs m)
    long_all =
        ap length told_all ∙ length-append found_now found_gone
        ∙ ap₂ (λ (n k : ℕ). n + k) long_now long_gone
        ∙ sym (ap length active_both ∙ length-append (map does (active_in rs)) (map does (active_in qs)))

    pub ruled_told : AreRuled reporting.show cs (results_in cs m) (told_ruled cs m reporting (runs_by v file now before))
    ruled_told =
        shown.impacts_told reporting.show (active_impacts cs m) (told_of (Some all) (runs_by v file now before)) long_all
        ∙ shown.shown_active reporting.show does (no_impact cs (results_in cs m)) (results_in cs m)
