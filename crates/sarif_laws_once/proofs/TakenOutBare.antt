-- The merge of logs and baselines without copies has the findings of the merge with them, in version 2.
use Rattle.std.proofs.Common.{◌≡◌, ℕ, true, false, List, [], map, sym, ap, ap₂, ◌∙◌}
use Rattle.sarif_counts.specs.CountOf.{count_of}
use Rattle.sarif_scope.specs.Counted.{hits_by, verdict_by}
use Rattle.sarif_evidence.specs.declared.version.MatchingVersion.TheVariants.{Two}
use Rattle.sarif_runs.specs.Judging.{run_values}
use Rattle.sarif_runs.specs.Placed.{Placed}
use Rattle.sarif_suppress.specs.Suppressing.{unused_of}
use Rattle.sarif_once.specs.Once.{copy_marks, without_copies}
use Rattle.sarif_log.specs.LogBy.{limited_records, runs_by, runs_without_results}
use Rattle.sarif_prepare.specs.By.{counted_if, runs_counted_if}
use Rattle.sarif_prepare.proofs.Expired.{all_expired}
use Rattle.sarif_inputs.specs.Faults.{faults_of}
use Rattle.sarif_inputs.specs.Inputs.{Inputs, baseline_runs, input_runs}
use Rattle.sarif_merge.specs.MergedLog.{file_given, limited_of, runs_counted, unused_counted}
use Rattle.sarif_laws_once.specs.Snippets.{compares_no_snippet}
use Rattle.sarif_laws_once.specs.TakenOut.{AreWithoutCopies, HasSameFindings, counting_each}
use Rattle.sarif_laws_once.specs.WithoutPlaces.{log_without_copies}
use Rattle.sarif_known_laws.proofs.BareRecords.{placed_bare}
use Rattle.sarif_laws_once.proofs.BareRecords.{values_bare}
use Rattle.sarif_laws_once.proofs.BareRuns.{runs_bare, unused_of_bare}
use Rattle.sarif_laws_once.proofs.ReadBare.{bare_before, bare_now, none_there_bare}
use Rattle.sarif_laws_once.proofs.TakenOut.{still_none}

module _ (inputs : Inputs) (logs baselines : List (List ℕ)) (none : faults_of inputs ≡ []) (once : inputs.checks.once ≡ true)
    (two : inputs.checks.matching ≡ Two) (unread : inputs.snippets ≡ false) (plain : compares_no_snippet (file_given inputs) ≡ true)
    (read : AreWithoutCopies inputs logs baselines) where
  abbrev other : Inputs
  other = counting_each inputs logs baselines

  abbrev now : List Placed
  now = input_runs inputs

  abbrev before : List Placed
  before = baseline_runs inputs

  same_now : input_runs other ≡ map placed_bare (without_copies now)
  same_now = bare_now inputs logs baselines none two unread read

  same_before : baseline_runs other ≡ map placed_bare (without_copies before)
  same_before = bare_before inputs logs baselines none two unread read

  counted_same : runs_counted other ≡ runs_counted inputs
  counted_same =
      ap₂ (runs_by inputs.checks.matching (file_given inputs)) same_now same_before
      ∙ ap (λ v. runs_by v (file_given inputs) (map placed_bare (without_copies now)) (map placed_bare (without_copies before))) two
      ∙ runs_bare (file_given inputs) plain (without_copies now) (without_copies before)
      ∙ sym (ap₂ (λ v b. runs_counted_if b v (file_given inputs) now before) two once)

  unused_same : unused_counted other ≡ unused_counted inputs
  unused_same =
      ap (λ ps. unused_of (file_given inputs) (limited_records (file_given inputs) ps)) same_now
      ∙ unused_of_bare (file_given inputs) plain (without_copies now)
      ∙ sym (ap (λ b. unused_of (file_given inputs) (limited_records (file_given inputs) (counted_if b now))) once)

  pub same_findings_bare : log_without_copies inputs ≡ runs_counted inputs → HasSameFindings inputs (counting_each inputs logs baselines)
  same_findings_bare log = record {
    faultless = none_there_bare inputs logs baselines none two unread read;
    log = counted_same ∙ sym log;
    counted = counted_same;
    counts = ap count_of counted_same;
    hits = λ change policy. ap (hits_by change policy) counted_same;
    verdict = λ change policy. ap (verdict_by change policy) counted_same;
    without =
        ap (λ ps. runs_without_results (run_values ps)) same_now ∙ ap runs_without_results (values_bare (without_copies now))
        ∙ still_none (copy_marks now) now;
    unused = unused_same;
    expired = sym (all_expired (file_given inputs) (limited_of other)) ∙ all_expired (file_given inputs) (limited_of inputs);
  }
