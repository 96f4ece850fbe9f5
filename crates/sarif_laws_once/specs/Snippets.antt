-- Suppression files without a condition on snippets.
use Rattle.std.specs.Prelude.{Bool, true, false}
use Rattle.std.specs.List.{list_all}
use Rattle.sarif_entries.specs.declared.condition.Condition.{Condition}
use Rattle.sarif_entries.specs.declared.condition.Condition.TheVariants.{Tool, RuleId, Uri, UriPrefix, Guid, Fingerprints, PartialFingerprints, Message, MessageId, MessageArguments, Snippet}
use Rattle.sarif_entries.specs.declared.entry.Entry.{Entry}
use Rattle.sarif_entries.specs.File.{File}

-- a condition that is not on the snippet
abbrev pub is_no_snippet : Condition → Bool
is_no_snippet (Tool text) = true
is_no_snippet (RuleId text) = true
is_no_snippet (Uri text) = true
is_no_snippet (UriPrefix prefix) = true
is_no_snippet (Guid guid) = true
is_no_snippet (Fingerprints pairs) = true
is_no_snippet (PartialFingerprints pairs) = true
is_no_snippet (Message text) = true
is_no_snippet (MessageId id) = true
is_no_snippet (MessageArguments texts) = true
is_no_snippet (Snippet text) = false

-- an entry without a condition on the snippet
abbrev pub compares_none : Entry → Bool
compares_none e = list_all is_no_snippet e.conditions

-- no entry of the file compares snippets
abbrev pub compares_no_snippet : File → Bool
compares_no_snippet file = list_all compares_none file.entries
