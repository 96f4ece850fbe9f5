-- What accepting results leaves of them in the next merge.
use Rattle.std.specs.Prelude.{◌≡◌, ℕ, ◌++◌, false, List, [], None, count_by, flat_map, length}
use Rattle.serde_json.specs.Data.{Data}
use Rattle.sarif_model.specs.Run.{results_of}
use Rattle.sarif_options.specs.declared.policy.Policy.{Policy}
use Rattle.sarif_options.specs.declared.upkeep.Renewal.{Renewal}
use Rattle.sarif_counts.specs.declared.gate_verdict.Verdict.TheVariants.{Pass}
use Rattle.sarif_counts.specs.CountOf.{count_of}
use Rattle.sarif_counts.specs.Hits.{hits_of, verdict_of}
use Rattle.sarif_findings.specs.Reported.{is_active, level_in, state_in}
use Rattle.sarif_inputs.specs.Faults.{faults_of}
use Rattle.sarif_inputs.specs.Inputs.{Inputs}
use Rattle.sarif_merge.specs.MergedLog.{file_given, runs_written}
use Rattle.sarif_laws.specs.Choosing.{entries_later}
use Rattle.sarif_laws.specs.Hits.{is_hit_in, stays_in, suppressions_listed}
use Rattle.sarif_laws.specs.NextMerge.{KeepsMatches, absent_written, merged_result, merged_run_at, with_file}

-- a result of the merged log, before accepting and after it: it is a hit if it was one that stays, it is suppressed if
-- it was, it has its level and its state, and its list of suppressions begins with what it was
pub record IsLeft (policy : Policy) (before after : Data) : Type 0 where
  pub hit : is_hit_in policy after ≡ stays_in policy before
  pub suppressed : is_active before ≡ false → is_active after ≡ false
  pub level : level_in after ≡ level_in before
  pub state : state_in after ≡ state_in before
  pub suppressions : (rest : List Data)
      × (suppressions_listed after ≡ suppressions_listed before ++ rest)

-- with this suppression file the merge of the same inputs has no errors; it has the same runs with as many results, and
-- each result is left at its place; absent results are written as before; entries that are kept match the same results
pub record LeavesWhatStays (inputs : Inputs) (policy : Policy) (renewal : Renewal)
    (text : List ℕ) : Type 0 where
  pub faultless : faults_of (with_file inputs text) ≡ []
  pub runs : length (runs_written (with_file inputs text)) ≡ length (runs_written inputs)
  pub counts : (k : ℕ) → length (results_of (merged_run_at (with_file inputs text) k))
      ≡ length (results_of (merged_run_at inputs k))
  pub results : (k seq : ℕ) → IsLeft policy (merged_result inputs k seq)
      (merged_result (with_file inputs text) k seq)
  pub absent : absent_written (with_file inputs text) ≡ absent_written inputs
  pub entries : (file_given (with_file inputs text)).entries
      ≡ entries_later inputs policy None renewal
  pub matches : KeepsMatches inputs text
  -- so the gate counts the hits that stay, and passes if there are none
  pub hits : hits_of (count_of (runs_written (with_file inputs text))) policy
      ≡ count_by (stays_in policy) (flat_map results_of (runs_written inputs))
  pub verdict : count_by (stays_in policy) (flat_map results_of (runs_written inputs)) ≡ 0
      → verdict_of (count_of (runs_written (with_file inputs text))) policy ≡ Pass
