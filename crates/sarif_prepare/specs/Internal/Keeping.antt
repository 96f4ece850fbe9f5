-- What a merge of two sides gives for later merges.
use Rattle.std.specs.Prelude.{◌≡◌, ◌+◌, List, Option, Some, Result, IfOk, IfErr, length, option_map}
use Rattle.sarif_conditions.specs.declared.decided.Decided.{Decided}
use Rattle.sarif_evidence.specs.declared.version.MatchingVersion.{MatchingVersion}
use Rattle.sarif_entries.specs.File.{File}
use Rattle.sarif_model.specs.declared.merge_fault.MergeFault.{MergeFault}
use Rattle.sarif_counts.specs.declared.life.Life.{Life}
use Rattle.sarif_options.specs.declared.upkeep.Upkeep.{Upkeep}
use Rattle.sarif_runs.specs.Placed.{Placed}
use Rattle.sarif_upkeep.specs.Merge.{Merge}
use Rattle.sarif_prepare.specs.declared.asked.Asked.{Asked}
use Rattle.sarif_prepare.specs.declared.file_read.FileRead.{FileRead}
use Rattle.sarif_prepare.specs.declared.pairing.Sides.{Sides}
use Rattle.sarif_prepare.specs.Asked.{choice_in}
use Rattle.sarif_prepare.specs.Chosen.{chosen_merge}
use Rattle.sarif_prepare.specs.Kept.{bytes_of, change_in, IsKept, IsUnkept}
use Rattle.sarif_prepare.specs.Internal.Outside.{AreNarrowed}
use Rattle.sarif_prepare.specs.Internal.Together.{AreTogether}
use Rattle.sarif_prepare.specs.Ruled.{decided_by, matched_in, policy_in}
use Rattle.sarif_prepare.specs.Internal.Ruling.{IsRuledIf}
use Rattle.sarif_policy.specs.declared.condition.GateCondition.{GateCondition}
use Rattle.sarif_scope.specs.declared.gated.GatedChange.{GatedChange}

-- the two sides are those of these runs of logs and of baselines
abbrev pub AreOfRuns : FileRead → Sides → List Placed → List Placed → Type 0
AreOfRuns rules sides current_runs baseline_runs =
    AreTogether rules.file.now current_runs baseline_runs sides.current.now sides.baselines.now

-- the merge of these runs, with the choice if there is one
abbrev pub merge_by : FileRead → Asked → List Placed → List Placed → Merge
merge_by rules asked current_runs baseline_runs =
    chosen_merge (policy_in rules) asked.options.now.checks rules.file.now (bytes_of rules) (change_in rules)
    asked.options.now.policy (choice_in asked) current_runs baseline_runs

-- the results of logs are marked as the change says
abbrev pub AreLookedAt : Option GatedChange → Asked → Sides → Type 0
AreLookedAt change asked sides =
    AreNarrowed change asked.options.now.policy sides.current.now sides.paired.now
    (option_map (λ narrowed. narrowed.now) sides.narrowed)

-- what these conditions decide about the merge of these runs, if there are conditions
abbrev pub AreDecided : Option (List GateCondition) → File → Option GatedChange → MatchingVersion
    → Sides → List Placed → List Placed → Type 0
AreDecided conditions file change version sides current_runs baseline_runs =
    option_map (λ decided. decided.now) sides.decided
    ≡ decided_by conditions (matched_in version file change current_runs baseline_runs)

-- what the conditions decide says what each result does to the gate
abbrev pub HaveImpacts : Sides → Type 0
HaveImpacts sides =
    (ruling : Decided) → option_map (λ decided. decided.now) sides.decided ≡ Some ruling
    → length ruling.impacts
    ≡ length sides.current.now.drafts.items + length sides.paired.now.left.items

-- the results of logs are marked as the conditions decide, if there are conditions
abbrev pub AreRuled : Sides → Type 0
AreRuled sides =
    IsRuledIf (option_map (λ decided. decided.now) sides.decided) sides.paired.now
    (option_map (λ ruled. ruled.now) sides.ruled)

-- what is given for later merges is that of the merge of the sides' runs
abbrev pub KeepsIfOk : FileRead → Asked → Sides → Option Upkeep → Result Life MergeFault → Type 0
KeepsIfOk rules asked sides upkeep result =
    (current_runs baseline_runs : List Placed) → AreOfRuns rules sides current_runs baseline_runs
    → IfOk result (IsKept (merge_by rules asked current_runs baseline_runs) upkeep)

-- why nothing is given is the reason of that merge
abbrev pub RejectsIfErr : FileRead → Asked → Sides → Option Upkeep → Result Life MergeFault → Type 0
RejectsIfErr rules asked sides upkeep result =
    (current_runs baseline_runs : List Placed) → AreOfRuns rules sides current_runs baseline_runs
    → IfErr result (IsUnkept (merge_by rules asked current_runs baseline_runs) upkeep)
