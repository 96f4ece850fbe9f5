-- What is assembled.
use Rattle.std.specs.Prelude.{◌≡◌, ℕ, List, Option, None}
use Rattle.serde_json.specs.Data.{Data}
use Rattle.sarif_evidence.specs.declared.version.MatchingVersion.{MatchingVersion}
use Rattle.sarif_entries.specs.File.{File}
use Rattle.sarif_suppress.specs.Suppressing.{unused_of}
use Rattle.sarif_runs.specs.Judging.{run_values}
use Rattle.sarif_runs.specs.Placed.{Placed}
use Rattle.sarif_findings.specs.declared.finding.Finding.{Finding}
use Rattle.sarif_log.specs.declared.prepared.Prepared.{Prepared}
use Rattle.sarif_log.specs.LogBy.{expired_of, limited_records, runs_by, runs_without_results}
use Rattle.sarif_log.specs.declared.copies.CopyPlace.{CopyPlace}
use Rattle.sarif_options.specs.declared.policy.Policy.{Policy}
use Rattle.sarif_scope.specs.Told.{facts_by}
use Rattle.sarif_scope.specs.declared.gated.GatedChange.{GatedChange}
use Rattle.sarif_conditions.specs.declared.facts.PolicyFacts.{PolicyFacts}
use Rattle.sarif_log.specs.Internal.Copied.{places_by}
use Rattle.sarif_log.specs.Internal.Written.{AreWritten, AreWrittenWith}

-- everything that is written for the merge of these input runs, these baseline runs and this suppression file, matched
-- by this version, its findings, with a change or without one, and what the conditions of a policy decide, if there is
-- one
pub record IsPrepared (version : MatchingVersion) (file : File) (current baseline : List Placed)
    (gated : Option GatedChange) (policy : Policy) (decided : Option PolicyFacts)
    (found : List Finding) (prepared : Prepared) : Type 0 where
  pub written : AreWritten prepared.current prepared.baseline
      (runs_by version file current baseline)
  pub without : prepared.without ≡ runs_without_results (run_values current)
  pub unused : prepared.unused ≡ unused_of file (limited_records file current)
  pub expired : prepared.expired ≡ expired_of file (limited_records file current)
  pub change : prepared.change ≡ facts_by gated policy (runs_by version file current baseline)
  pub ruling : prepared.ruling ≡ decided
  pub told : prepared.findings.items ≡ found
  pub copies : prepared.copies ≡ None

-- everything that is written for a merge whose log has these runs, whose gate counts the results of other runs and
-- names these copies, the findings of the runs that are counted, and what the conditions of a policy decide, if there
-- is one
pub record IsPreparedAs (runs counted : List Data) (places : Option (List CopyPlace))
    (gated : Option GatedChange) (policy : Policy) (decided : Option PolicyFacts) (bare idle : ℕ)
    (found : List Finding) (prepared : Prepared) : Type 0 where
  pub written : AreWrittenWith prepared.copies prepared.current prepared.baseline runs counted
  pub named : places_by prepared.copies prepared.current prepared.baseline ≡ places
  pub without : prepared.without ≡ bare
  pub unused : prepared.unused ≡ idle
  pub change : prepared.change ≡ facts_by gated policy counted
  pub ruling : prepared.ruling ≡ decided
  pub told : prepared.findings.items ≡ found
