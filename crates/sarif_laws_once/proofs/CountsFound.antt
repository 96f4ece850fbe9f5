-- What is counted of the findings of logs.
use Rattle.std.proofs.Common.{◌≡◌, Bool, false, List, [], map, Some, sym, ◌∙◌}
use Rattle.std.specs.List.{AllByRecursion, flat_map}
use Rattle.sarif_counts.specs.CountOf.{count_of}
use Rattle.sarif_entries.specs.File.{File}
use Rattle.sarif_evidence.specs.declared.version.MatchingVersion.{MatchingVersion}
use Rattle.sarif_match.specs.Partners.{partners_in}
use Rattle.sarif_model.specs.declared.kinds.Level.{Level}
use Rattle.sarif_model.specs.declared.kinds.State.{State}
use Rattle.sarif_model.specs.Run.{results_of}
use Rattle.sarif_results.specs.Drafts.{applied_of, drafts_by, IsRun}
use Rattle.sarif_results.proofs.JudgedCounts.{records_of_logs}
use Rattle.sarif_runs.specs.Judging.{faults_of_runs, records_of, run_values, skips}
use Rattle.sarif_runs.specs.Placed.{Placed}
use Rattle.sarif_suppress.specs.Limited.{limited}
use Rattle.sarif_once.specs.Once.{copy_marks, without_copies}
use Rattle.sarif_once.proofs.Faults.{none_faulty}
use Rattle.sarif_once.proofs.Parts.{runs_left, sources_left}
use Rattle.sarif_log.specs.Internal.Texts.{tallied}
use Rattle.sarif_log.specs.LogBy.{current_runs, listing_of, states_of}
use Rattle.sarif_log.proofs.Limits.{limited_long}
use Rattle.sarif_log.proofs.RunCounts.{runs_count}
use Rattle.sarif_log.proofs.Sides.{states_long}

module _ (v : MatchingVersion) (file : File) (now before : List Placed) (are : AllByRecursion IsRun (run_values now))
    (sound : faults_of_runs now ≡ []) (logs : AllByRecursion (λ p. skips p.source ≡ false) now) where
  pub counts_found : (s : State) (l : Level) (b : Bool)
      → count_of (current_runs v file (without_copies now) (without_copies before)) s l b
      ≡ tallied (drafts_by (listing_of file) (applied_of file) (limited file (records_of (without_copies now)))
      (flat_map results_of (run_values (without_copies now))))
      (map Some (states_of v (records_of (without_copies now)) (records_of (without_copies before)))) s l b
  counts_found s l b =
      let tn = without_copies now in
      let rs = records_of tn in
      let qs = records_of (without_copies before) in
      let long = limited_long file rs in
      sym (runs_count (listing_of file) (applied_of file) (limited file rs) (states_of v rs qs) (run_values tn) s l b
      (runs_left (copy_marks now) now are)
      (long ∙ records_of_logs tn (none_faulty (copy_marks now) now sound) (sources_left false (copy_marks now) now logs))
      (states_long v qs (partners_in v rs qs) 0 rs ∙ sym long))
