-- A merge whose copies aren't counted, and the merge of the same logs and baselines without these copies.
use Rattle.std.specs.Prelude.{◌≡◌, ℕ, Bool, false, List, [], ◌∷◌, Ok, Option, drop, ⊤}
use Rattle.serde_json.specs.Data.{Data}
use Rattle.sarif_model.specs.Run.{results_total}
use Rattle.sarif_read.specs.Reading.{log_of}
use Rattle.sarif_options.specs.declared.policy.Policy.{Policy}
use Rattle.sarif_counts.specs.CountOf.{count_of}
use Rattle.sarif_scope.specs.Counted.{hits_by, verdict_by}
use Rattle.sarif_scope.specs.declared.gated.GatedChange.{GatedChange}
use Rattle.sarif_inputs.specs.Faults.{faults_of}
use Rattle.sarif_inputs.specs.Inputs.{Inputs, baseline_runs, input_runs, looks_at_regions}
use Rattle.sarif_once.specs.Once.{copy_marks}
use Rattle.sarif_upkeep.specs.Merge.{Merge}
use Rattle.sarif_merge.specs.MergedLog.{expired_in, runs_counted, runs_in_log, unused_counted, without_of}
use Rattle.sarif_laws_once.specs.Places.{values_without}
use Rattle.sarif_laws_once.specs.WithoutPlaces.{log_without_copies}

-- the second sources are read as the runs of the first, without the marked results; the marks are those of all results,
-- in the order of sources, runs and results
abbrev pub AreReadWithout : Bool → List Bool → List (List ℕ) → List (List ℕ) → Type 0
AreReadWithout allow marks [] [] = ⊤
AreReadWithout allow marks [] (these ∷ more) = ⊥
AreReadWithout allow marks (those ∷ rest) [] = ⊥
AreReadWithout allow marks (those ∷ rest) (these ∷ more) =
    (runs : List Data) × (log_of allow those ≡ Ok runs)
    × (log_of allow these ≡ Ok (values_without marks runs))
    × AreReadWithout allow (drop (results_total runs) marks) rest more

-- logs and baselines that are read as those of the inputs, without the results that are copies
pub record AreWithoutCopies (inputs : Inputs) (logs baselines : List (List ℕ)) : Type 0 where
  pub current : AreReadWithout inputs.checks.allow_external (copy_marks (input_runs inputs))
      inputs.logs logs
  pub before : AreReadWithout inputs.checks.allow_external (copy_marks (baseline_runs inputs))
      inputs.baselines baselines

-- the merge of these logs and baselines with the same suppression file, diff, date and requirements, which counts each
-- result
abbrev pub counting_each : Inputs → List (List ℕ) → List (List ℕ) → Inputs
counting_each inputs logs baselines =
    record inputs {
      logs = logs;
      baselines = baselines;
      checks = record inputs.checks { once = false };
    }

-- a merge for later merges, as it is if each result is counted: its known log has regions only if they are matched, and may
-- keep an absent result that is alike to a known one
abbrev pub if_each_counts : Inputs → Merge → Merge
if_each_counts inputs m =
    record m { once = false; regions = looks_at_regions inputs.checks.matching }

-- another merge without errors, with the same findings
pub record HasSameFindings (inputs other : Inputs) : Type 0 where
  pub faultless : faults_of other ≡ []
  -- its log has the runs of this log without the copies: each result has the same level, state and suppressions
  pub log : runs_in_log other ≡ log_without_copies inputs
  -- its findings, and so its reports, are those of the same runs
  pub counted : runs_counted other ≡ runs_counted inputs
  -- so each count is the same, and so are the hits and the verdict, with each change and without one
  pub counts : count_of (runs_counted other) ≡ count_of (runs_counted inputs)
  pub hits : (change : Option GatedChange) (policy : Policy)
      → hits_by change policy (runs_counted other) ≡ hits_by change policy (runs_counted inputs)
  pub verdict : (change : Option GatedChange) (policy : Policy)
      → verdict_by change policy (runs_counted other)
      ≡ verdict_by change policy (runs_counted inputs)
  -- the runs without results, the unused entries, and those of them that are expired
  pub without : without_of other ≡ without_of inputs
  pub unused : unused_counted other ≡ unused_counted inputs
  pub expired : expired_in other ≡ expired_in inputs
