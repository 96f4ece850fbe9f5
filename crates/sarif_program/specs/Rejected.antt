-- When a run has no merge, and what it reports then.
use Rattle.std.specs.Prelude.{◌≡◌, ◌+◌, ◌⊎◌, ℕ, List, [], Option, Some}
use Rattle.sarif_inputs.specs.Faults.{faults_of}
use Rattle.sarif_merge.specs.FromReaders.{IsRefusedWith, IsTooLargeWith}
use Rattle.sarif_merge.specs.Given.{given_by}
use Rattle.sarif_model.specs.declared.merge_fault.Cause.TheVariants.{OutOfMemory}
use Rattle.sarif_model.specs.declared.merge_fault.MergeFault.{MergeFault}
use Rattle.sarif_model.specs.MergeFault.{exit_status}
use Rattle.sarif_request.specs.declared.request.Request.{Request}
use Rattle.sarif_streams.specs.declared.readers.Readers.{Readers}
use Rattle.sarif_streams.specs.WereRead.{failures, AllTell, SourceContents, WereRead}
use Rattle.sarif_program.specs.declared.complaint.Complaint.TheVariants.{Fault}
use Rattle.sarif_program.specs.declared.complaint.Complaints.{Complaints}
use Rattle.sarif_program.specs.Line.{HasComplained}

-- the merge was rejected, or one read failed
abbrev pub HasNoMerge : {R : Type 0} → ℕ → Readers R → Readers R → Type 0
HasNoMerge status old new = (status ≡ 2) ⊎ (failures new ≡ failures old + 1)

-- the merge of what was read is rejected for this reason, which its line says and the status follows; out of memory may
-- be reported before anything is read
pub record IsRejectedFor {R E : Type 0} (remaining : R → Option (List ℕ))
    (written : E → Option (List ℕ)) (request : Request) (readers after : Readers R)
    (complaints told : Complaints E) (status : ℕ) (fault : MergeFault) : Type 0 where
  pub refused : (fault.cause ≡ OutOfMemory → ⊥) → IsRefusedWith remaining readers after
      request.options request.choice (Some request.upkeep) fault
  pub exits : status ≡ exit_status fault.cause
  pub said : HasComplained written (Fault fault) complaints told

-- for some reason
abbrev pub IsRejected : {R E : Type 0} → (R → Option (List ℕ)) → (E → Option (List ℕ)) → Request
    → Readers R → Readers R → Complaints E → Complaints E → ℕ → Type 0
IsRejected remaining written request readers after complaints told status = (fault : MergeFault)
    × IsRejectedFor remaining written request readers after complaints told status fault

-- what is wrong with sources of these contents: an error of the inputs, or of what was requested for later merges
abbrev pub AreFaulty : SourceContents → Request → Type 0
AreFaulty contents request =
    (faults_of (given_by contents request.options) ≡ [] → ⊥)
    ⊎ ((fault : MergeFault)
    × IsTooLargeWith contents request.options request.choice (Some request.upkeep) fault)

-- all sources were read, of readers that say what they have, and something is wrong with them
abbrev pub WereFaulty : {R : Type 0} → (R → Option (List ℕ)) → Request → Readers R → Readers R
    → Type 0
WereFaulty remaining request old new =
    (contents : SourceContents) × AllTell remaining old × WereRead remaining old new contents
    × AreFaulty contents request
