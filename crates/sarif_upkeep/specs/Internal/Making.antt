-- Making the new suppression file.
use Rattle.std.specs.Prelude.{ℕ, Bool, List, length, map, Option, option_map}
use Rattle.std.specs.Borrow.{Bor}
use Rattle.serde_json.specs.Data.{Data}
use Rattle.sarif_model.specs.declared.merge_fault.At.TheVariants.{Whole}
use Rattle.sarif_model.specs.declared.merge_fault.Cause.{Cause}
use Rattle.sarif_model.specs.declared.merge_fault.MergeFault.{MergeFault}
use Rattle.sarif_model.specs.declared.merge_fault.Source.TheVariants.{Suppress}
use Rattle.sarif_model.specs.declared.record.Record.{Record}
use Rattle.sarif_model.specs.declared.refusal.Refusal.{Refusal}
use Rattle.sarif_model.specs.declared.refusal.Refusal.TheVariants as refusal
use Rattle.sarif_model.specs.MergeFault.{fault_at, out_of_memory}
use Rattle.sarif_options.specs.declared.upkeep.Renewal.{Renewal}
use Rattle.sarif_accept.specs.Renewed.{renewed_entries, renewed_file}

-- the error of a merge whose new file is rejected
abbrev pub rejected : Refusal Cause → MergeFault
rejected (refusal.Fault cause) = fault_at (Whole Suppress) cause
rejected refusal.OutOfMemory = out_of_memory

abbrev pub bytes_in : Option (Bor (List ℕ)) → Option (List ℕ)
bytes_in bytes = option_map (λ b. b.now) bytes

abbrev pub entries_of : Option (Bor (List ℕ)) → List Bool → List (Bor Record) → Renewal → ℕ
entries_of bytes kept added renewal =
    length (renewed_entries (bytes_in bytes) kept (map (λ r. r.now) added) renewal)

abbrev pub file_of : Option (Bor (List ℕ)) → List Bool → List (Bor Record) → Renewal → Data
file_of bytes kept added renewal =
    renewed_file (bytes_in bytes) kept (map (λ r. r.now) added) renewal
