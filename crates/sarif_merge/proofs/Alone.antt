-- A merge from which nothing was requested for later merges.
use Rattle.std.proofs.Common.{◌≡◌, ◌<◌, ◌⊎◌, ℕ, List, [], Option, Some, inl, inr, length, refl, subst, ◌∙◌}
use Rattle.std.specs.Io.KnownBytes.{Appends}
use Rattle.std.specs.Prelude.{None, take}
use Rattle.sarif_counts.specs.declared.life.Life.{Life}
use Rattle.sarif_entries.specs.File.{File}
use Rattle.sarif_options.specs.declared.checks.Checks.{Checks}
use Rattle.sarif_options.specs.declared.options.Options.{Options}
use Rattle.sarif_options.specs.declared.policy.Policy.{Policy}
use Rattle.sarif_options.specs.declared.upkeep.Upkeep.{Upkeep}
use Rattle.sarif_findings.specs.declared.reporting.Reporting.{Reporting}
use Rattle.sarif_log.specs.declared.merged.Merged.{Merged}
use Rattle.sarif_model.specs.declared.merge_fault.MergeFault.{MergeFault}
use Rattle.sarif_model.specs.FirstFault.{IsOutOfResources}
use Rattle.sarif_inputs.specs.Faults.{first_fault}
use Rattle.sarif_inputs.specs.Inputs.{Inputs, baseline_runs, input_runs}
use Rattle.sarif_merge.specs.Merged.{IsMerged}
use Rattle.sarif_merge.specs.MergedLog.{change_given, conditions_given, file_given, runs_counted, told_given}
use Rattle.sarif_policy.specs.declared.condition.GateCondition.{GateCondition}
use Rattle.sarif_prepare.specs.By.{counted_if}
use Rattle.sarif_prepare.specs.Ruled.{matched_in}
use Rattle.sarif_prepare.specs.Told.{told_in}
use Rattle.sarif_runs.specs.Placed.{Placed}
use Rattle.sarif_scope.specs.declared.gated.GatedChange.{GatedChange}
use Rattle.serde_json.specs.Data.{Data}
use Rattle.sarif_choice.specs.declared.choice.Choosing.{Choosing}
use Rattle.sarif_merge.specs.Life.{IsLifeOf, IsRefusal, no_life}
use Rattle.sarif_streams.specs.declared.readers.Readers.{Readers}
use Rattle.sarif_merge.specs.FromReaders.{IsMergedFrom, IsMergedWith, IsPartlyWritten, IsRefused, IsRefusedWith}

-- the merge that was read is that of the log alone
pub merged_alone : {R : Type 0} → (remaining : R → Option (List ℕ)) → (old new : Readers R) → (options : Options) → (asked : Option Reporting)
    → (choice : Option Choosing) → (upkeep : Option Upkeep) → (merged : Merged)
    → IsMergedWith remaining old new options asked choice upkeep merged → IsMergedFrom remaining old new options asked merged
merged_alone remaining old new options asked choice upkeep merged with_life = (with_life.0, with_life.1, with_life.2)

-- there is nothing for later merges
pub life_alone : (inputs : Inputs) (policy : Policy) (choice : Option Choosing) (life : Life) → IsLifeOf inputs policy choice None life → life ≡ no_life
life_alone inputs policy choice life kept = kept.is

pub kept_alone : {R : Type 0} → (remaining : R → Option (List ℕ)) → (old new : Readers R) → (options : Options) → (asked : Option Reporting) → (choice : Option Choosing)
    → (merged : Merged) → IsMergedWith remaining old new options asked choice None merged → merged.life ≡ no_life
kept_alone remaining old new options asked choice merged with_life = with_life.3.is

-- without reports there are no findings
none_told : (conditions : Option (List GateCondition)) (checks : Checks) (file : File) (change : Option GatedChange) (current baseline : List Placed)
    (runs : List Data) → told_in conditions (matched_in checks.matching file change current baseline) None runs ≡ []
none_told None checks file None current baseline runs = refl
none_told None checks file (Some change) current baseline runs = refl
none_told (Some cs) checks file change current baseline runs = refl

pub untold_alone : (inputs : Inputs) (policy : Policy) (merged : Merged) → IsMerged inputs policy None merged → merged.findings.items ≡ []
unfolding told_given
untold_alone inputs policy merged made =
    made.told
    ∙ none_told (conditions_given inputs) inputs.checks (file_given inputs) (change_given inputs)
    (counted_if inputs.checks.once (input_runs inputs)) (counted_if inputs.checks.once (baseline_runs inputs)) (runs_counted inputs)

-- a merge with nothing for later merges is rejected for no other reason
pub refused_alone : {R : Type 0} → (remaining : R → Option (List ℕ)) → (old new : Readers R) → (options : Options) → (choice : Option Choosing)
    → (fault : MergeFault) → IsRefusedWith remaining old new options choice None fault → IsRefused remaining old new options fault
refused_alone remaining old new options choice fault refused = elim refused [ inl same ↦ same | inr large ↦ let never : ⊥ = cc large.1.3 in absurd never ]

pub refusal_alone : (inputs : Inputs) (policy : Policy) (choice : Option Choosing) (fault : MergeFault) → IsRefusal inputs policy choice None fault → IsOutOfResources fault
    ⊎ (first_fault inputs ≡ Some fault)
refusal_alone inputs policy choice fault (inl same) = same
refusal_alone inputs policy choice fault (inr large) = let never : ⊥ = cc large.1 in absurd never

-- what rejects the merge of the log alone rejects the merge
pub refused_first : {R : Type 0} → (remaining : R → Option (List ℕ)) → (old new : Readers R) → (options : Options) → (choice : Option Choosing)
    → (upkeep : Option Upkeep) → (fault : MergeFault)
    → IsRefused remaining old new options fault → IsRefusedWith remaining old new options choice upkeep fault
refused_first remaining old new options choice upkeep fault refused = inl refused

-- a prefix of the text of the log was written
pub partly_written : {R : Type 0} → (remaining : R → Option (List ℕ)) → (old new : Readers R) → (options : Options) → (merged : Merged)
    → (before after : Option (List ℕ)) → (bytes : List ℕ) → (n : ℕ)
    → IsMergedWith remaining old new options None None None merged → bytes ≡ merged.log
    → n < length bytes → Appends before after (take n bytes) → IsPartlyWritten remaining old new options before after
partly_written remaining old new options merged before after bytes n made same less written =
    let text = same ∙ made.2.log in
    (made.0, made.1, made.2.faultless, (n, subst (λ b. n < length b) text less, subst (λ b. Appends before after (take n b)) text written))
