-- For which results entries are added to a new suppression file, and what the file is then.
use Rattle.std.specs.Prelude.{ℕ, Bool, not, ◌&&◌, List, [], ◌∷◌, ◌++◌, map, filter, Option, None, if◌then◌else◌}
use Rattle.std.specs.Cmp.Lexicographic.{pointwise}
use Rattle.std.specs.List.{list_any, list_all}
use Rattle.sarif_evidence.specs.Seen.{as_matched}
use Rattle.sarif_evidence.specs.declared.version.MatchingVersion.{MatchingVersion}
use Rattle.sarif_model.specs.declared.kinds.State.{State}
use Rattle.sarif_model.specs.declared.kinds.Status.TheVariants.{Accepted}
use Rattle.sarif_model.specs.declared.record.Record.{Record}
use Rattle.sarif_model.specs.Status.{is_accepted}
use Rattle.sarif_options.specs.declared.policy.Policy.{Policy}
use Rattle.sarif_options.specs.declared.upkeep.Renewal.{Renewal}
use Rattle.sarif_options.specs.Policy.{are_hits}
use Rattle.sarif_entries.specs.declared.condition.Condition.{Condition}
use Rattle.sarif_entries.specs.declared.condition.Condition.TheVariants.{Fingerprints, PartialFingerprints}
use Rattle.sarif_entries.specs.declared.entry.Entry.{Entry}
use Rattle.sarif_entries.specs.Condition.{is_same}
use Rattle.sarif_entries.specs.Entries.{pairs_of}
use Rattle.sarif_entries.specs.File.{File}
use Rattle.sarif_suppress.specs.Suppressing.{statuses_of, is_suppressed}
use Rattle.sarif_accept.specs.Entry.{texts_put, conditions_for}
use Rattle.sarif_accept.specs.Keeping.{Heard, is_kept}

-- ---- which results are accepted

-- whether a result of a state may be a hit, if it is not suppressed
abbrev pub MayBeHit : Type 0
MayBeHit = Record → State → Bool

-- the policy's, by the state and the level
abbrev pub may_hit : Policy → MayBeHit
may_hit policy r state = are_hits policy state r.level

abbrev pub is_hit : MayBeHit → File → Record → State → Bool
is_hit counts file r state = counts r state && not (is_suppressed file r)

-- the result has a suppression that isn't accepted, so no entry can make it suppressed
abbrev pub stays : File → Record → Bool
stays file r = not (list_all is_accepted (statuses_of file r))

-- the results that are accepted: hits that don't stay, in order
abbrev pub accepted_among : MayBeHit → File → List Record → List State → List Record
accepted_among counts file [] states = []
accepted_among counts file (r ∷ rs) [] = []
accepted_among counts file (r ∷ rs) (state ∷ states) =
    if is_hit counts file r state && not (stays file r)
    then r ∷ accepted_among counts file rs states else accepted_among counts file rs states

-- ---- each entry once

-- both ask the same
abbrev pub same_conditions : List Condition → List Condition → Bool
same_conditions a b = pointwise is_same a b

-- the entry of the other result asks what that of the result asks
abbrev pub is_said : Record → Record → Bool
is_said r other = same_conditions (conditions_for other) (conditions_for r)

-- the results, without each whose entry asks what that of one before it asks
abbrev pub once_each : List Record → List Record → List Record
once_each before [] = []
once_each before (r ∷ rs) =
    if list_any (is_said r) before then once_each before rs
    else r ∷ once_each (before ++ r ∷ []) rs

-- ---- the file as it is read again

-- how the file is renewed, by which version results are matched, and whether a tool was heard
pub record How : Type 0 where
  pub renewal : Renewal
  pub matching : MatchingVersion
  pub heard : Heard

-- the results for which entries are added, as the version of matching sees them
abbrev pub added_for : How → MayBeHit → File → List Record → List State → List Record
added_for how counts file rs states =
    if how.renewal.accept
    then once_each [] (map (as_matched how.matching) (accepted_among counts file rs states)) else []

-- a condition as it is read: fingerprints are in the order of their names
abbrev pub as_read : Condition → Condition
as_read (Fingerprints pairs) = Fingerprints (pairs_of (texts_put pairs))
as_read (PartialFingerprints pairs) = PartialFingerprints (pairs_of (texts_put pairs))
as_read c = c

-- the entry that accepts a result, as it is read
abbrev pub entry_read : Record → Option (List ℕ) → Option ℕ → Entry
entry_read r reason until = record {
  conditions = map as_read (conditions_for r);
  expires = until;
  status = Accepted;
  justification = reason;
  limit = None;
}

-- the entries that are kept, and then those of the accepted results
abbrev pub file_after : How → MayBeHit → File → List Record → List State → File
file_after how counts file rs states = record {
  entries = filter (is_kept how.renewal.prune how.heard file rs) file.entries
      ++ map (λ r. entry_read r how.renewal.reason how.renewal.until)
      (added_for how counts file rs states);
  today = file.today;
}
