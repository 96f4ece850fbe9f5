-- The lines of error messages.
use Rattle.std.specs.Prelude.{◌≡◌, ◌⊎◌, true, ℕ, Option, Some, List, [], ◌∷◌, ◌++◌, take, codes}
use Rattle.std.specs.Io.KnownBytes.{Appends}
use Rattle.sarif_model.specs.declared.fault.Fault.{Fault}
use Rattle.sarif_model.specs.declared.fault.Fault.TheVariants as fault
use Rattle.sarif_model.specs.declared.merge_fault.At.{At}
use Rattle.sarif_model.specs.declared.merge_fault.At.TheVariants.{Nowhere, Whole, Run, Single, Entry, Condition, Only, Except, Line, Place, Rule}
use Rattle.sarif_model.specs.declared.merge_fault.Cause.{Cause}
use Rattle.sarif_model.specs.declared.merge_fault.Cause.TheVariants as cause
use Rattle.sarif_model.specs.FaultText.{at_text}
use Rattle.sarif_reports.specs.Report.{output_name}
use Rattle.sarif_streams.specs.declared.counted.Counted.{Counted}
use Rattle.sarif_streams.specs.Counted.{failed_calls, inner_of}
use Rattle.sarif_program.specs.declared.complaint.Complaint.{Complaint}
use Rattle.sarif_program.specs.declared.complaint.Complaint.TheVariants as complaint
use Rattle.sarif_program.specs.declared.complaint.Complaints.{Complaints}

-- the name of an error in what was read
abbrev pub fault_name : Fault → List ℕ
fault_name fault.NotJson = codes "NotJson"
fault_name fault.NotLog = codes "NotLog"
fault_name fault.WrongVersion = codes "WrongVersion"
fault_name fault.BadRun = codes "BadRun"
fault_name fault.ExternalProperties = codes "ExternalProperties"
fault_name fault.BadRules = codes "BadRules"
fault_name fault.BadIndex = codes "BadIndex"
fault_name fault.BadLevel = codes "BadLevel"
fault_name fault.BadKind = codes "BadKind"
fault_name fault.BadGuid = codes "BadGuid"
fault_name fault.BadFingerprint = codes "BadFingerprint"
fault_name fault.BadLocation = codes "BadLocation"
fault_name fault.BadSuppression = codes "BadSuppression"
fault_name fault.BadMember = codes "BadMember"
fault_name fault.AbsentInput = codes "AbsentInput"
fault_name fault.TooMany = codes "TooMany"
fault_name fault.NotList = codes "NotList"
fault_name fault.BadEntry = codes "BadEntry"
fault_name fault.EmptyMatch = codes "EmptyMatch"
fault_name fault.NeedsToday = codes "NeedsToday"
fault_name fault.NotSuccessful = codes "NotSuccessful"
fault_name fault.NoHit = codes "NoHit"
fault_name fault.NoChange = codes "NoChange"
fault_name fault.Combined = codes "Combined"
fault_name fault.BadHunk = codes "BadHunk"
fault_name fault.BadHeader = codes "BadHeader"
fault_name fault.Submodule = codes "Submodule"
fault_name fault.NotPolicy = codes "NotPolicy"
fault_name fault.NoCondition = codes "NoCondition"
fault_name fault.BadCondition = codes "BadCondition"
fault_name fault.BadFilter = codes "BadFilter"
fault_name fault.EmptyFilter = codes "EmptyFilter"
fault_name fault.SameName = codes "SameName"
fault_name fault.NeedsDiff = codes "NeedsDiff"

-- the name of a cause
abbrev pub cause_name : Cause → List ℕ
cause_name (cause.Of fault) = fault_name fault
cause_name cause.TooLong = codes "TooLong"
cause_name cause.ReadFailed = codes "ReadFailed"
cause_name cause.WriteFailed = codes "WriteFailed"
cause_name cause.OutOfMemory = codes "OutOfMemory"
cause_name cause.NoWorker = codes "NoWorker"

-- a name with its place, if it has one
abbrev pub placed : At → List ℕ → List ℕ
placed Nowhere name = name
placed (Whole source) name = at_text (Whole source) ++ (codes ": " ++ name)
placed (Run source run) name = at_text (Run source run) ++ (codes ": " ++ name)
placed (Single source run result) name =
    at_text (Single source run result) ++ (codes ": " ++ name)
placed (Entry entry) name = at_text (Entry entry) ++ (codes ": " ++ name)
placed (Condition number) name = at_text (Condition number) ++ (codes ": " ++ name)
placed (Only number filter) name = at_text (Only number filter) ++ (codes ": " ++ name)
placed (Except number filter) name = at_text (Except number filter) ++ (codes ": " ++ name)
placed (Line number) name = at_text (Line number) ++ (codes ": " ++ name)
placed (Place number) name = at_text (Place number) ++ (codes ": " ++ name)
placed (Rule number) name = at_text (Rule number) ++ (codes ": " ++ name)

-- what an error message says
abbrev pub complaint_text : Complaint → List ℕ
complaint_text (complaint.Fault fault) = placed fault.at (cause_name fault.cause)
complaint_text (complaint.Lost report) = output_name report ++ codes ": WriteFailed"

-- its line
abbrev pub complaint_line : Complaint → List ℕ
complaint_line complaint = (codes "sarif_gate: " ++ complaint_text complaint) ++ 10 ∷ []

-- its line was written, or nothing; a prefix of it was written only if a write failed
pub record IsTold {E : Type 0} (contents : E → Option (List ℕ)) (complaint : Complaint)
    (old new : Counted E) : Type 0 where
  pub whole : failed_calls new ≡ failed_calls old
      → Appends (contents (inner_of old)) (contents (inner_of new)) (complaint_line complaint)
      ⊎ (new ≡ old)
  pub prefix : (n : ℕ)
      × Appends (contents (inner_of old)) (contents (inner_of new))
      (take n (complaint_line complaint))

-- the last error message is this one, and its line was written, a prefix of it if a write failed, or nothing; nothing
-- if the caller explains it
pub record HasComplained {E : Type 0} (contents : E → Option (List ℕ)) (complaint : Complaint)
    (old new : Complaints E) : Type 0 where
  pub last : new.last ≡ Some complaint
  pub line : IsTold contents complaint old.out new.out
  pub left : old.is_explained ≡ true → new.out ≡ old.out
  pub explained : new.is_explained ≡ old.is_explained
