-- What the conditions of a policy decide about a merge.
use Rattle.std.specs.Prelude.{List, Option, flat_map, option_map}
use Rattle.sarif_conditions.specs.declared.decided.Decided.{Decided}
use Rattle.sarif_conditions.specs.declared.facts.PolicyFacts.{PolicyFacts}
use Rattle.sarif_deciding.specs.Matched.{Matched}
use Rattle.sarif_deciding.specs.Ruling.{ruling_in}
use Rattle.sarif_entries.specs.File.{File}
use Rattle.sarif_evidence.specs.declared.version.MatchingVersion.{MatchingVersion}
use Rattle.sarif_log.specs.LogBy.{limited_records, states_of, taken_of}
use Rattle.sarif_model.specs.Run.{present, results_of}
use Rattle.sarif_policy.specs.declared.condition.GateCondition.{GateCondition}
use Rattle.sarif_prepare.specs.Hidden.{drafts_of}
use Rattle.sarif_prepare.specs.declared.file_read.FileRead.{FileRead}
use Rattle.sarif_read.specs.Unmarked.{unmarked}
use Rattle.sarif_results.specs.Drafts.{drafts_by, unapplied}
use Rattle.sarif_results.specs.declared.draft.Draft.{Draft}
use Rattle.sarif_runs.specs.Judging.{records_of, run_values}
use Rattle.sarif_runs.specs.Placed.{Placed}
use Rattle.sarif_scope.specs.declared.gated.GatedChange.{GatedChange}

-- the conditions of the policy, if there is one
abbrev pub policy_in : FileRead → Option (List GateCondition)
policy_in rules = option_map (λ policy. policy.now.conditions) rules.policy

-- the drafts of all results of these runs of baselines that aren't already absent
abbrev pub drafts_before : List Placed → List Draft
drafts_before baseline =
    drafts_by (λ _ own. own) unapplied (records_of baseline)
    (flat_map (λ run. present (results_of run)) (run_values baseline))

-- the merge of these input runs and baseline runs, matched by a version, as far as its policy is concerned
abbrev pub matched_in : MatchingVersion → File → Option GatedChange → List Placed → List Placed
    → Matched
matched_in version file change current baseline =
    let taken = taken_of version (records_of current) (records_of baseline) in record {
      file = file;
      change = change;
      runs = current;
      records = limited_records file current;
      states = states_of version (records_of current) (records_of baseline);
      drafts = drafts_of file current;
      before = baseline;
      known = records_of baseline;
      taken = taken;
      left = unmarked taken (drafts_before baseline);
    }

-- what these conditions decide about a merge, if there are some
abbrev pub decided_by : Option (List GateCondition) → Matched → Option Decided
decided_by conditions m = option_map (λ cs. ruling_in cs m) conditions

-- what the gate says about these conditions, if there are some
abbrev pub ruled_by : Option (List GateCondition) → MatchingVersion → File → Option GatedChange
    → List Placed → List Placed → Option PolicyFacts
ruled_by conditions version file change current baseline =
    option_map (λ decided. decided.facts)
    (decided_by conditions (matched_in version file change current baseline))
