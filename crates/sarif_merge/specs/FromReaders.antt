-- What a merge from readers into a writer produces, and why it is rejected.
use Rattle.std.specs.Prelude.{◌≡◌, ℕ, ◌<◌, ◌≤◌, List, [], ◌⊎◌, Option, Some, length, take}
use Rattle.std.specs.Io.KnownBytes.{Appends}
use Rattle.sarif_model.specs.declared.merge_fault.MergeFault.{MergeFault}
use Rattle.sarif_streams.specs.declared.readers.Readers.{Readers}
use Rattle.sarif_model.specs.declared.refusal.Refusal.{Refusal}
use Rattle.sarif_streams.specs.declared.readers.ReadersFault.{ReadersFault}
use Rattle.sarif_streams.specs.ReadersFault.{fault_of_readers}
use Rattle.sarif_streams.specs.WereRead.{SourceContents, HasStoppedAt, WereRead}
use Rattle.sarif_options.specs.declared.options.Options.{Options}
use Rattle.sarif_options.specs.declared.upkeep.Upkeep.{Upkeep}
use Rattle.sarif_findings.specs.declared.reporting.Reporting.{Reporting}
use Rattle.sarif_log.specs.declared.merged.Merged.{Merged}
use Rattle.sarif_inputs.specs.Faults.{IsTooMany, faults_of, first_fault}
use Rattle.sarif_model.specs.FirstFault.{IsOutOfResources}
use Rattle.sarif_merge.specs.Given.{given_by}
use Rattle.sarif_choice.specs.declared.choice.Choosing.{Choosing}
use Rattle.sarif_merge.specs.Life.{IsLifeOf, IsTooLarge}
use Rattle.sarif_merge.specs.Merged.{IsMerged}
use Rattle.sarif_merge.specs.MergedLog.{output_text}
use Rattle.sarif_model.specs.Limits.{most_sources}

-- reading ended at one of the sources, and the rejection says so
abbrev pub IsStopped : {R : Type 0} → (R → Option (List ℕ)) → Readers R → Readers R → MergeFault
    → Type 0
IsStopped remaining old new fault =
    (stopped : Refusal ReadersFault) × HasStoppedAt remaining old new stopped
    × (fault ≡ fault_of_readers stopped)

-- all sources were read, and the merge of what was read is rejected: memory ran out, a thread could not be
-- started, or this is the first error
abbrev pub IsAtFault : {R : Type 0} → (R → Option (List ℕ)) → Readers R → Readers R
    → Options → MergeFault → Type 0
IsAtFault remaining old new options fault =
    (contents : SourceContents) × WereRead remaining old new contents
    × (IsOutOfResources fault ⊎ (first_fault (given_by contents options) ≡ Some fault))

-- neither logs nor baselines are too many
abbrev pub AreFew : {R : Type 0} → Readers R → Type 0
AreFew all = (length all.logs.items ≤ most_sources) × (length all.baselines.items ≤ most_sources)

-- a rejection before anything is written: too many sources, otherwise what ended reading, otherwise the first
-- error of what was read
abbrev pub IsRefused : {R : Type 0} → (R → Option (List ℕ)) → Readers R → Readers R
    → Options → MergeFault → Type 0
IsRefused remaining old new options fault =
    IsTooMany (length old.logs.items) (length old.baselines.items) fault
    ⊎ (AreFew old × (IsStopped remaining old new fault
    ⊎ IsAtFault remaining old new options fault))

-- all sources were read, and this is the merge of what was read
abbrev pub IsMergedFrom : {R : Type 0} → (R → Option (List ℕ)) → Readers R → Readers R
    → Options → Option Reporting → Merged → Type 0
IsMergedFrom remaining old new options asked merged =
    (contents : SourceContents) × WereRead remaining old new contents
    × IsMerged (given_by contents options) options.policy asked merged

-- all sources were read, and this is the merge of what was read, with what is for later merges
abbrev pub IsMergedWith : {R : Type 0} → (R → Option (List ℕ)) → Readers R → Readers R
    → Options → Option Reporting → Option Choosing → Option Upkeep → Merged → Type 0
IsMergedWith remaining old new options asked choice upkeep merged =
    (contents : SourceContents) × WereRead remaining old new contents
    × IsMerged (given_by contents options) options.policy asked merged
    × IsLifeOf (given_by contents options) options.policy choice upkeep merged.life

-- the first error of what was requested for later merges
abbrev pub IsTooLargeWith : SourceContents → Options → Option Choosing → Option Upkeep
    → MergeFault → Type 0
IsTooLargeWith contents options choice upkeep fault =
    IsTooLarge (given_by contents options) options.policy choice upkeep fault

-- a rejection before anything is written, of a merge with what is for later merges: after the errors of the inputs
-- comes the first error of what was requested for later merges
abbrev pub IsRefusedWith : {R : Type 0} → (R → Option (List ℕ)) → Readers R → Readers R
    → Options → Option Choosing → Option Upkeep → MergeFault → Type 0
IsRefusedWith remaining old new options choice upkeep fault =
    IsRefused remaining old new options fault
    ⊎ (AreFew old × ((contents : SourceContents) × WereRead remaining old new contents
    × (faults_of (given_by contents options) ≡ [])
    × IsTooLargeWith contents options choice upkeep fault))

-- all sources were read, they have no errors, and a proper prefix of the text was written
abbrev pub IsPartlyWritten : {R : Type 0} → (R → Option (List ℕ)) → Readers R → Readers R
    → Options → Option (List ℕ) → Option (List ℕ) → Type 0
IsPartlyWritten remaining old new options before after =
    (contents : SourceContents) × WereRead remaining old new contents
    × (faults_of (given_by contents options) ≡ [])
    × ((n : ℕ) × (n < length (output_text (given_by contents options) options.policy))
    × Appends before after (take n (output_text (given_by contents options) options.policy)))
