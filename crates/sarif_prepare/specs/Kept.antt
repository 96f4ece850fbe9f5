-- What a merge gives for later merges, by its runs and its suppression file.
use Rattle.std.specs.Prelude.{◌≡◌, ◌⊎◌, ◌+◌, ℕ, false, List, [], ◌∷◌, Option, Some, None, option_map, slice_index_or, IfSome}
use Rattle.sarif_model.specs.declared.merge_fault.MergeFault.{MergeFault}
use Rattle.sarif_model.specs.FirstFault.{first}
use Rattle.sarif_model.specs.MergeFault.{out_of_memory}
use Rattle.sarif_counts.specs.declared.life.Life.{Life}
use Rattle.sarif_options.specs.declared.checks.Checks.{Checks}
use Rattle.sarif_options.specs.declared.policy.Policy.{Policy}
use Rattle.sarif_options.specs.declared.upkeep.Upkeep.{Upkeep}
use Rattle.sarif_evidence.specs.declared.version.MatchingVersion.{MatchingVersion}
use Rattle.sarif_entries.specs.File.{File}
use Rattle.sarif_runs.specs.Judging.{records_of, run_values}
use Rattle.sarif_runs.specs.Placed.{Placed}
use Rattle.sarif_model.specs.declared.record.Record.{Record}
use Rattle.sarif_match.specs.Partners.{partners_in}
use Rattle.sarif_known.specs.Chosen.{knows_regions}
use Rattle.sarif_known.specs.Standing.{standing_of}
use Rattle.sarif_known.specs.declared.standing.Standing.{Standing}
use Rattle.sarif_upkeep.specs.Life.{life_faults, life_of}
use Rattle.sarif_upkeep.specs.Merge.{Merge}
use Rattle.sarif_upkeep.specs.ReadBack.{IsReadAgain}
use Rattle.sarif_prepare.specs.Hidden.{hidden_by}
use Rattle.sarif_prepare.specs.declared.file_read.FileRead.{FileRead}
use Rattle.sarif_scope.specs.declared.gated.GatedChange.{GatedChange}
use Rattle.sarif_log.specs.LogBy.{limited_records, partner_in, states_of, taken_of}

-- what matching by a version says about each of these current results; the first has number n
abbrev pub standings_from : MatchingVersion → List Record → List (Option ℕ) → ℕ → List Record
    → List Standing
standings_from version bs partners n [] = []
standings_from version bs partners n (r ∷ rs) =
    standing_of version r (partner_in bs (slice_index_or partners n None))
    ∷ standings_from version bs partners (n + 1) rs

-- what matching says about each current result
abbrev pub standings_of : MatchingVersion → List Record → List Record → List Standing
standings_of version cs bs = standings_from version bs (partners_in version cs bs) 0 cs

-- the merge of these input runs and baseline runs, matched as these checks say, with this suppression file, read from
-- these bytes, under this policy, if each result is counted; its gate checks only the change, if there is one
abbrev pub merge_of : Checks → File → Option (List ℕ) → Option GatedChange → Policy
    → List Placed → List Placed → Merge
merge_of checks file bytes change policy current baseline = record {
  file = file;
  bytes = bytes;
  policy = policy;
  matching = checks.matching;
  once = false;
  regions = knows_regions checks.matching checks.once;
  runs = run_values current;
  records = limited_records file current;
  states = states_of checks.matching (records_of current) (records_of baseline);
  standings = standings_of checks.matching (records_of current) (records_of baseline);
  hidden = hidden_by change file current;
  absent = None;
  chosen = None;
  misfit = None;
  before = run_values baseline;
  known = records_of baseline;
  taken = taken_of checks.matching (records_of current) (records_of baseline);
}

abbrev pub bytes_of : FileRead → Option (List ℕ)
bytes_of rules = option_map (λ bytes. bytes.now) rules.bytes

-- the change that the gate checks, if there is one
abbrev pub change_in : FileRead → Option GatedChange
change_in rules = option_map (λ change. change.now) rules.change

-- what is for later merges has no errors, and is the defined one; each file of it is read as it is defined
pub record IsKept (m : Merge) (upkeep : Option Upkeep) (life : Life) : Type 0 where
  pub faultless : life_faults m upkeep ≡ []
  pub is : life ≡ life_of m upkeep
  pub read : IfSome upkeep (λ requested. IsReadAgain m requested life)

-- why there is none: memory ran out, or this is the first error of it
abbrev pub IsUnkept : Merge → Option Upkeep → MergeFault → Type 0
IsUnkept m upkeep fault = (fault ≡ out_of_memory) ⊎ (first (life_faults m upkeep) ≡ Some fault)
