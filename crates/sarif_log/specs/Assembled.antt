-- What assembling the merged log gives.
use Rattle.std.specs.Prelude.{◌≡◌, ℕ, Bool, List, Option}
use Rattle.serde_json.specs.Data.{Data}
use Rattle.serde_json.specs.Written.{compact_text}
use Rattle.sarif_model.specs.declared.kinds.Level.{Level}
use Rattle.sarif_model.specs.declared.kinds.State.{State}
use Rattle.sarif_evidence.specs.declared.version.MatchingVersion.{MatchingVersion}
use Rattle.sarif_entries.specs.File.{File}
use Rattle.sarif_suppress.specs.Suppressing.{unused_of}
use Rattle.sarif_options.specs.declared.policy.Policy.{Policy}
use Rattle.sarif_counts.specs.CountOf.{count_of}
use Rattle.sarif_counts.specs.Counts.{count_at}
use Rattle.sarif_findings.specs.declared.finding.Finding.{Finding}
use Rattle.sarif_runs.specs.Judging.{run_values}
use Rattle.sarif_runs.specs.Placed.{Placed}
use Rattle.sarif_log.specs.declared.merged.Merged.{Merged}
use Rattle.sarif_log.specs.LogBy.{limited_records, runs_by, runs_without_results}
use Rattle.sarif_log.specs.Log.{log_with}
use Rattle.sarif_log.specs.Ruled.{gate_ruled, verdict_ruled}
use Rattle.sarif_scope.specs.Counted.{verdict_by}
use Rattle.sarif_scope.specs.Told.{facts_by}
use Rattle.sarif_scope.specs.declared.gated.GatedChange.{GatedChange}
use Rattle.sarif_conditions.specs.declared.facts.PolicyFacts.{PolicyFacts}

-- counts, verdict and numbers are those of a log with these runs, which are written; with a change, the verdict is that
-- of the results inside, and the gate's words on the change are the defined ones; if conditions of a policy decide, the
-- verdict is theirs
pub record HasGate (runs : List Data) (gated : Option GatedChange) (policy : Policy)
    (decided : Option PolicyFacts) (bare_runs idle_entries : ℕ) (merged : Merged) : Type 0 where
  pub counts : (state : State) (level : Level) (suppressed : Bool)
      → count_at merged.counts state level suppressed ≡ count_of runs state level suppressed
  pub verdict : merged.verdict ≡ verdict_ruled decided (verdict_by gated policy runs)
  pub change : merged.change ≡ facts_by gated policy runs
  pub ruling : merged.ruling ≡ decided
  pub without : merged.without ≡ bare_runs
  pub unused : merged.unused ≡ idle_entries

-- a merge whose log has these runs
pub record IsLogOf (runs : List Data) (gated : Option GatedChange) (policy : Policy)
    (decided : Option PolicyFacts) (without unused : ℕ) (merged : Merged) : Type 0 where
  pub log : merged.log
      ≡ compact_text (log_with (gate_ruled decided gated runs policy without unused) runs)
  pub gate : HasGate runs gated policy decided without unused merged

-- the merge of these input runs, these baseline runs and this suppression file, matched by this version, the findings
-- for its reports, and what the conditions of a policy decide, if there is one
pub record IsMergedBy (version : MatchingVersion) (file : File) (current baseline : List Placed)
    (gated : Option GatedChange) (policy : Policy) (decided : Option PolicyFacts)
    (found : List Finding) (merged : Merged) : Type 0 where
  pub written : IsLogOf (runs_by version file current baseline) gated policy decided
      (runs_without_results (run_values current)) (unused_of file (limited_records file current)) merged
  pub told : merged.findings.items ≡ found
