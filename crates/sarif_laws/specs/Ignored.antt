-- Two merges whose logs differ in ignored fingerprints alone.
use Rattle.std.specs.Prelude.{◌≡◌, [], map}
use Rattle.serde_json.specs.Data.{Data}
use Rattle.sarif_options.specs.declared.policy.Policy.{Policy}
use Rattle.sarif_counts.specs.Gate.{gate_of}
use Rattle.sarif_counts.specs.Hits.{verdict_of}
use Rattle.sarif_runs_laws.specs.Ignoring.{run_without}
use Rattle.sarif_inputs.specs.Faults.{faults_of}
use Rattle.sarif_inputs.specs.Inputs.{Inputs}
use Rattle.sarif_log.specs.LogBy.{log_by}
use Rattle.sarif_merge.specs.MergedLog.{runs_written, unused_in, without_of}
use Rattle.sarif_laws.specs.Sums.{counts_in}

-- the gate in the log of the merge
abbrev pub gate_in : Inputs → Policy → Data
gate_in inputs policy =
    gate_of (counts_in inputs) policy (without_of inputs) (unused_in inputs)

-- the log of the merge, if each result is counted
abbrev pub log_of_all : Inputs → Policy → Data
log_of_all inputs policy =
    log_by (runs_written inputs) policy (without_of inputs) (unused_in inputs)

-- another merge without errors, whose log lacks the ignored fingerprints of this one and is equal otherwise
pub record LacksIgnored (inputs other : Inputs) : Type 0 where
  pub faultless : faults_of other ≡ []
  -- its runs are those of this log, without the members with these names in both maps of each result
  pub runs : runs_written other ≡ map (run_without inputs.checks.ignored) (runs_written inputs)
  -- so it has the same results of each state, level and side, the same hits, verdict and unused entries
  pub counts : counts_in other ≡ counts_in inputs
  pub verdict : (policy : Policy)
      → verdict_of (counts_in other) policy ≡ verdict_of (counts_in inputs) policy
  pub gate : (policy : Policy) → gate_in other policy ≡ gate_in inputs policy
