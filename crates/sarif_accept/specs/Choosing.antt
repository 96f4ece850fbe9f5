-- Accepting chosen hits alone: for which results entries are then added, and which hits are left. An entry of a chosen hit
-- may match others too: these hits are alike.
use Rattle.std.specs.Prelude.{ℕ, Bool, true, false, not, ◌&&◌, ◌||◌, List, [], ◌∷◌, ◌++◌, filter, get_or, map, Option, Some, None, if◌then◌else◌}
use Rattle.std.specs.List.{list_any}
use Rattle.sarif_evidence.specs.Seen.{as_matched}
use Rattle.sarif_model.specs.declared.kinds.State.{State}
use Rattle.sarif_model.specs.declared.record.Record.{Record}
use Rattle.sarif_entries.specs.declared.entry.Entry.{Entry}
use Rattle.sarif_entries.specs.File.{File}
use Rattle.sarif_entries.specs.Matching.{matches}
use Rattle.sarif_accept.specs.Adding.{accepted_among, entry_read, is_hit, once_each, stays, How, MayBeHit}
use Rattle.sarif_accept.specs.Keeping.{chosen, is_kept}

-- ---- for which results entries are added

-- whether each result is chosen, if not all are
abbrev pub Marks : Type 0
Marks = Option (List Bool)

-- the chosen elements of a list
abbrev pub chosen_by : {A : Type 0} → Marks → List A → List A
chosen_by None xs = xs
chosen_by (Some marks) xs = chosen marks xs

-- the element of that number is chosen
abbrev pub is_chosen_at : Marks → ℕ → Bool
is_chosen_at None i = true
is_chosen_at (Some marks) i = get_or marks i false

-- the chosen results that are accepted
abbrev pub accepted_by : Marks → MayBeHit → File → List Record → List State → List Record
accepted_by marks counts file rs states =
    accepted_among counts file (chosen_by marks rs) (chosen_by marks states)

-- the chosen results for which entries are added, as the version of matching sees them
abbrev pub added_by : How → Marks → MayBeHit → File → List Record → List State → List Record
added_by how marks counts file rs states =
    if how.renewal.accept
    then once_each [] (map (as_matched how.matching) (accepted_by marks counts file rs states))
    else []

-- ---- the file as it is read again

-- the entries that accept these results, as they are read
abbrev pub entries_read : How → List Record → List Entry
entries_read how added = map (λ r. entry_read r how.renewal.reason how.renewal.until) added

-- the entries that are kept, and then those that accept these results
abbrev pub file_adding : How → File → List Record → List Record → File
file_adding how file rs added = record {
  entries = filter (is_kept how.renewal.prune how.heard file rs) file.entries
      ++ entries_read how added;
  today = file.today;
}

-- ---- the hits that are alike, and those that are left

-- one of these entries matches the result
abbrev pub is_met : File → List Entry → Record → Bool
is_met file es r = list_any (λ e. matches file.today e r) es

-- a hit that an entry can accept: it doesn't stay
abbrev pub is_acceptable : MayBeHit → File → Record → State → Bool
is_acceptable counts file r state = is_hit counts file r state && not (stays file r)

-- a hit that is alike: it isn't chosen, and one of the added entries accepts it all the same
abbrev pub is_alike : MayBeHit → File → List Entry → Bool → Record → State → Bool
is_alike counts file es mark r state =
    not mark && (is_acceptable counts file r state && is_met file es r)

-- a hit that is left: it stays, or none of the added entries matches it
abbrev pub is_left : MayBeHit → File → List Entry → Record → State → Bool
is_left counts file es r state =
    is_hit counts file r state && (stays file r || not (is_met file es r))

-- a hit that is neither accepted nor alike: it stays, or it isn't chosen and none of the added entries matches it
abbrev pub is_other : MayBeHit → File → List Entry → Bool → Record → State → Bool
is_other counts file es mark r state =
    is_hit counts file r state && (stays file r || (not mark && not (is_met file es r)))

-- the results that pass a test with their states, in order
abbrev pub passing : (Record → State → Bool) → List Record → List State → List Record
passing test [] states = []
passing test (r ∷ rs) [] = []
passing test (r ∷ rs) (state ∷ states) =
    if test r state then r ∷ passing test rs states else passing test rs states

-- the alike ones of these results, by the marks of those that are chosen
abbrev pub alike_among : MayBeHit → File → List Entry → List Bool → List Record → List State
    → List Record
alike_among counts file es [] rs states = []
alike_among counts file es (mark ∷ marks) [] states = []
alike_among counts file es (mark ∷ marks) (r ∷ rs) [] = []
alike_among counts file es (mark ∷ marks) (r ∷ rs) (state ∷ states) =
    if is_alike counts file es mark r state then r ∷ alike_among counts file es marks rs states
    else alike_among counts file es marks rs states

-- the hits among these results that are neither accepted nor alike
abbrev pub others_among : MayBeHit → File → List Entry → List Bool → List Record → List State
    → List Record
others_among counts file es [] rs states = []
others_among counts file es (mark ∷ marks) [] states = []
others_among counts file es (mark ∷ marks) (r ∷ rs) [] = []
others_among counts file es (mark ∷ marks) (r ∷ rs) (state ∷ states) =
    if is_other counts file es mark r state then r ∷ others_among counts file es marks rs states
    else others_among counts file es marks rs states
