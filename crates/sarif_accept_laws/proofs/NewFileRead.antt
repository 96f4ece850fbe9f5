-- The new file of one that was read is read as it was meant.
use Rattle.std.proofs.Common.{◌≡◌, ℕ, ◌≤◌, List, length, map, Option, Some, sym, ap, ◌∙◌}
use Rattle.std.specs.Prelude.{Ok}
use Rattle.std.specs.List.{AllByRecursion}
use Rattle.json_parts.specs.Indexed.{json_of}
use Rattle.json_parts.specs.Mark.{without_mark}
use Rattle.sarif_model.specs.Limits.{most_entries}
use Rattle.sarif_model.specs.declared.kinds.State.{State}
use Rattle.sarif_model.specs.declared.record.Record.{Record}
use Rattle.sarif_entries.specs.File.{File, file_of}
use Rattle.sarif_entries.specs.Numbering.{renumbered}
use Rattle.sarif_accept.specs.Adding.{How, MayBeHit, added_for, file_after}
use Rattle.sarif_accept.specs.Choosing.{file_adding}
use Rattle.sarif_entries.specs.Given.{file_or_none}
use Rattle.sarif_accept.specs.Keeping.{is_kept}
use Rattle.sarif_accept.specs.NewFile.{file_object, entries_in, others_in}
use Rattle.sarif_accept.specs.Renewed.{renewed_entries, renewed_file}
use Rattle.sarif_accept.specs.Until.{HasGuid, IsDated}
use Rattle.sarif_accept_laws.proofs.FileRead.{file_read}
use Rattle.sarif_accept_laws.proofs.GivenFile.{entries_given, today_given}

pub new_file_adding : (how : How) (given : Option (List ℕ)) (today : Option ℕ) (file : File) (rs added : List Record) (text : List ℕ)
    → file_or_none given today ≡ Ok file → AllByRecursion HasGuid added → IsDated today how.renewal.until
    → length (renewed_entries given (map (is_kept how.renewal.prune how.heard file rs) file.entries) added how.renewal) ≤ most_entries
    → json_of (without_mark text)
    ≡ Some (renewed_file given (map (is_kept how.renewal.prune how.heard file rs) file.entries) added how.renewal)
    → file_of text today ≡ Ok (renumbered (file_adding how file rs added))
new_file_adding how given today file rs added text is fits dated few reads =
    let from = entries_given given today file is in
    let same : file.today ≡ today = today_given given today file is in
    let dated_here : IsDated file.today how.renewal.until = rw same dated in
    let read = file_read how file rs added from.version (file_object given)
    (entries_in (file_object given)) (others_in (file_object given)) text from.fifth from.read fits dated_here few reads in
    ap (file_of text) (sym same) ∙ read

pub new_file_read : (how : How) (counts : MayBeHit) (given : Option (List ℕ)) (today : Option ℕ) (file : File) (rs : List Record)
    (states : List State) (text : List ℕ)
    → file_or_none given today ≡ Ok file → AllByRecursion HasGuid (added_for how counts file rs states) → IsDated today how.renewal.until
    → length
    (renewed_entries given (map (is_kept how.renewal.prune how.heard file rs) file.entries)
    (added_for how counts file rs states) how.renewal) ≤ most_entries
    → json_of (without_mark text)
    ≡ Some
    (renewed_file given (map (is_kept how.renewal.prune how.heard file rs) file.entries) (added_for how counts file rs states) how.renewal)
    → file_of text today ≡ Ok (renumbered (file_after how counts file rs states))
new_file_read how counts given today file rs states text is fits dated few reads =
    new_file_adding how given today file rs (added_for how counts file rs states) text is fits dated few reads
