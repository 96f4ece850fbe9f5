-- Merges with different baselines, whose records may differ only in own suppressions.
use Rattle.std.specs.Prelude.{◌≡◌, ℕ, List}
use Rattle.sarif_inputs.specs.Inputs.{Inputs}
use Rattle.sarif_log.specs.LogBy.{taken_of}
use Rattle.sarif_merge.specs.MergedLog.{current_of, written_inputs}
use Rattle.sarif_merge.specs.OwnResult.{baseline_of}

-- the same inputs with these baselines
abbrev pub with_baselines : Inputs → List (List ℕ) → Inputs
with_baselines inputs baselines = record inputs { baselines = baselines }

-- the input runs are written the same, each result with its level, its state and its suppressions; and the same baseline
-- results are matched
pub record HasSameResults (inputs other : Inputs) : Type 0 where
  pub written : written_inputs other ≡ written_inputs inputs
  pub matched : taken_of other.checks.matching (current_of other) (baseline_of other)
      ≡ taken_of inputs.checks.matching (current_of inputs) (baseline_of inputs)
