-- The suppressions of a baseline's own results change no current result.
use Rattle.std.proofs.Common.{◌≡◌, ℕ, ◌+◌, List, [], ◌∷◌, map, length, Option, None, slice_index_or, refl, sym, ap, ap₂, ◌∙◌}
use Rattle.std.specs.List.{range_with_len}
use Rattle.std.proofs.lemmas.List.{length-map}
use Rattle.sarif_model.specs.declared.record.Record.{Record}
use Rattle.sarif_evidence.specs.declared.version.MatchingVersion.{MatchingVersion}
use Rattle.sarif_match.specs.Partners.{is_taken, partners_in}
use Rattle.sarif_runs.specs.Judging.{run_values}
use Rattle.sarif_known.specs.Laws.{AreAlike, without_own}
use Rattle.sarif_known_laws.proofs.SamePartners.{same_partners, same_states}
use Rattle.sarif_inputs.specs.Inputs.{Inputs, input_runs}
use Rattle.sarif_log.specs.LogBy.{listing_of, states_from, states_of, taken_of}
use Rattle.sarif_log.specs.MergedRuns.{merged_runs}
use Rattle.sarif_merge.specs.MergedLog.{current_of, file_given, limited_of}
use Rattle.sarif_merge.specs.OwnResult.{baseline_of}
use Rattle.sarif_laws.specs.SameBaseline.{HasSameResults, with_baselines}

module _ (v : MatchingVersion) (bs others : List Record) (alike : AreAlike bs others) where
  states_same : (partners : List (Option ℕ)) (n : ℕ) (rs : List Record) → states_from v bs partners n rs ≡ states_from v others partners n rs
  states_same partners n [] = refl
  states_same partners n (r ∷ rs) = ap₂ (λ s ss. s ∷ ss) (same_states v r bs others (slice_index_or partners n None) alike) (states_same partners (n + 1) rs)

  all_states_same : (cs : List Record) → states_of v cs bs ≡ states_of v cs others
  all_states_same cs = ap (λ partners. states_from v bs partners 0 cs) (same_partners v cs bs others alike) ∙ states_same (partners_in v cs others) 0 cs

  as_many : length bs ≡ length others
  as_many = sym (length-map bs without_own) ∙ ap length alike ∙ length-map others without_own

  taken_same : (cs : List Record) → taken_of v cs bs ≡ taken_of v cs others
  taken_same cs = ap₂ (λ partners n. map (is_taken partners) (range_with_len 0 n)) (same_partners v cs bs others alike) as_many

pub same_results : (inputs : Inputs) (baselines : List (List ℕ)) → AreAlike (baseline_of inputs) (baseline_of (with_baselines inputs baselines))
    → HasSameResults inputs (with_baselines inputs baselines)
same_results inputs baselines alike =
    let bs = baseline_of inputs in
    let others = baseline_of (with_baselines inputs baselines) in
    record {
      written =
          ap (λ states. merged_runs (listing_of (file_given inputs)) (limited_of inputs) states (run_values (input_runs inputs)))
          (sym (all_states_same inputs.checks.matching bs others alike (current_of inputs)));
      matched = sym (taken_same inputs.checks.matching bs others alike (current_of inputs));
    }
