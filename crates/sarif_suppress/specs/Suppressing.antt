-- What a suppression file makes of a result (SARIF 2.1.0, result object, "suppressions property").
use Rattle.std.specs.Prelude.{ℕ, Bool, not, ◌&&◌, List, ◌++◌, map, filter, count_by, is_some}
use Rattle.std.specs.List.{list_any, list_all}
use Rattle.sarif_model.specs.declared.kinds.Status.{Status}
use Rattle.sarif_model.specs.declared.record.Record.{Record}
use Rattle.sarif_model.specs.Status.{is_accepted}
use Rattle.sarif_entries.specs.declared.entry.Entry.{Entry}
use Rattle.sarif_entries.specs.File.{File}
use Rattle.sarif_entries.specs.Matching.{is_empty, matches}
use Rattle.sarif_filing.specs.Numbers.{numbers_from}

-- the entries that match the result, in file order
abbrev pub matching : File → Record → List Entry
matching file r = filter (λ e. matches file.today e r) file.entries

-- their numbers, which rise
abbrev pub matching_numbers : File → Record → List ℕ
matching_numbers file r = numbers_from (λ e. matches file.today e r) 0 file.entries

-- whether suppressions of these statuses suppress: there is at least one, and none is rejected or under review
abbrev pub statuses_suppress : List Status → Bool
statuses_suppress statuses = not (is_empty statuses) && list_all is_accepted statuses

-- the statuses of the result's own suppressions, and then those of the matching entries
abbrev pub statuses_of : File → Record → List Status
statuses_of file r = r.held ++ map (λ e. e.status) (matching file r)

abbrev pub is_suppressed : File → Record → Bool
is_suppressed file r = statuses_suppress (statuses_of file r)

-- the entry matches none of the results
abbrev pub is_unused : File → List Record → Entry → Bool
is_unused file rs e = not (list_any (λ r. matches file.today e r) rs)

-- how many entries match none of the results
abbrev pub unused_of : File → List Record → ℕ
unused_of file rs = count_by (is_unused file rs) file.entries

-- ---- what is suppressed for good

-- the entry has no expiry date
abbrev pub is_lasting : Entry → Bool
is_lasting e = not (is_some e.expires)

-- the file without the entries that have an expiry date
abbrev pub lasting : File → File
lasting file = record { entries = filter is_lasting file.entries; today = file.today }
