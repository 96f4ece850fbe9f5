-- The new suppression file, and why there is none.
use Rattle.std.specs.Prelude.{ℕ, Bool, List, length, map, Option, Some, None, nat_lt, if◌then◌else◌}
use Rattle.serde_json.specs.Data.{Data}
use Rattle.sarif_options.specs.declared.upkeep.Renewal.{Renewal}
use Rattle.sarif_model.specs.Limits.{most_bytes, most_entries}
use Rattle.sarif_model.specs.declared.fault.Fault.TheVariants.{TooMany}
use Rattle.sarif_model.specs.declared.merge_fault.Cause.{Cause}
use Rattle.sarif_model.specs.declared.merge_fault.Cause.TheVariants.{Of, TooLong}
use Rattle.sarif_model.specs.declared.record.Record.{Record}
use Rattle.sarif_accept.specs.Entry.{entry_for}
use Rattle.sarif_accept.specs.NewFile.{file_object, entries_after, file_text, new_file}

-- the marked entries of the file, if there is one, and then the entries that accept these results
module _ (given : Option (List ℕ)) (kept : List Bool) (added : List Record) (renewal : Renewal)
  where
    abbrev pub added_entries : List Data
    added_entries = map (λ r. entry_for r renewal.reason renewal.until) added

    abbrev pub renewed_entries : List Data
    renewed_entries = entries_after (file_object given) kept added_entries

    -- the new file
    abbrev pub renewed_file : Data
    renewed_file = new_file (file_object given) kept added_entries

    -- why there is none: too many entries, or a file that could not be read again
    abbrev pub renewal_cause : Option Cause
    renewal_cause =
        if nat_lt most_entries (length renewed_entries) then Some (Of TooMany)
        else (if nat_lt most_bytes (length (file_text renewed_file)) then Some TooLong else None)
