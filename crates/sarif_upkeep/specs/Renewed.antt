-- The new suppression file of a merge.
use Rattle.std.specs.Prelude.{ℕ, ◌+◌, Bool, not, ◌&&◌, List, [], ◌∷◌, Option, Some, None, count_by, length, map, nat_lt, option_map, unwrap_or, if◌then◌else◌}
use Rattle.serde_json.specs.Data.{Data}
use Rattle.sarif_model.specs.declared.fault.Fault.TheVariants.{TooMany}
use Rattle.sarif_model.specs.declared.kinds.State.{State}
use Rattle.sarif_model.specs.declared.kinds.State.TheVariants.{Absent}
use Rattle.sarif_model.specs.declared.merge_fault.At.TheVariants.{Whole}
use Rattle.sarif_model.specs.declared.merge_fault.Cause.TheVariants.{TooLong}
use Rattle.sarif_model.specs.declared.merge_fault.MergeFault.{MergeFault}
use Rattle.sarif_model.specs.declared.merge_fault.Source.TheVariants.{Suppress}
use Rattle.sarif_model.specs.declared.record.Record.{Record}
use Rattle.sarif_model.specs.Limits.{most_bytes, most_entries}
use Rattle.sarif_model.specs.MergeFault.{cause_of, fault_at}
use Rattle.sarif_counts.specs.declared.life.NewFile.{NewFile}
use Rattle.sarif_options.specs.declared.upkeep.Renewal.{Renewal}
use Rattle.sarif_counts.specs.Hits.{count_if}
use Rattle.sarif_entries.specs.declared.entry.Entry.{Entry}
use Rattle.sarif_entries.specs.File.{File}
use Rattle.sarif_accept.specs.Adding.{is_hit, may_hit, stays, MayBeHit, How}
use Rattle.sarif_accept.specs.Choosing.{accepted_by, added_by, alike_among, entries_read, others_among, Marks}
use Rattle.sarif_accept.specs.Entry.{entry_for}
use Rattle.sarif_accept.specs.Keeping.{is_kept}
use Rattle.sarif_accept.specs.NewFile.{entries_after, file_object, file_text, new_file}
use Rattle.sarif_heard.specs.Heard.{heard}
use Rattle.sarif_upkeep.specs.Merge.{chosen_shown, records_shown, states_shown, Merge}

abbrev pub how_of : Merge → Renewal → How
how_of m renewal =
    record { renewal = renewal; matching = m.matching; heard = heard m.runs }

-- ---- its entries

-- whether each entry of the suppression file is kept
abbrev pub kept_in : Merge → Renewal → List Bool
kept_in m renewal =
    map (is_kept renewal.prune (heard m.runs) m.file m.records) m.file.entries

-- the chosen hits that are accepted, in the order of the merged log; pruning reads all results, and accepting those
-- that the gate checks
abbrev pub accepted_in : Merge → List Record
accepted_in m =
    accepted_by (chosen_shown m) (may_hit m.policy) m.file (records_shown m) (states_shown m)

-- the results for which entries are added, as the version of matching sees them
abbrev pub added_in : Merge → Renewal → List Record
added_in m renewal =
    added_by (how_of m renewal) (chosen_shown m) (may_hit m.policy) m.file
    (records_shown m) (states_shown m)

-- the entries that accept them
abbrev pub values_added : Merge → Renewal → List Data
values_added m renewal =
    map (λ r. entry_for r renewal.reason renewal.until) (added_in m renewal)

-- these entries, as they are read
abbrev pub entries_added : Merge → Renewal → List Entry
entries_added m renewal = entries_read (how_of m renewal) (added_in m renewal)

-- how many entries the new suppression file has
abbrev pub entries_count : Merge → Renewal → ℕ
entries_count m renewal =
    length (entries_after (file_object m.bytes) (kept_in m renewal) (values_added m renewal))

-- the new suppression file, as a value: the entries that are kept, and then those that accept results
abbrev pub rules_after : Merge → Renewal → Data
rules_after m renewal =
    new_file (file_object m.bytes) (kept_in m renewal) (values_added m renewal)

-- ---- its numbers

-- how many hits aren't chosen and are accepted all the same, by the marks of those that are chosen
abbrev pub alike_in : Merge → Renewal → List Bool → ℕ
alike_in m renewal marks =
    length (alike_among (may_hit m.policy) m.file (entries_added m renewal) marks
    (records_shown m) (states_shown m))

-- the number of these, if not all hits are chosen
abbrev pub alike_told : Merge → Renewal → Option ℕ
alike_told m renewal =
    option_map (λ marks. count_if renewal.accept (alike_in m renewal marks)) (chosen_shown m)

-- how many hits among current results have suppressions, and so stay hits
abbrev pub staying_among : MayBeHit → File → List Record → List State → ℕ
staying_among counts file [] states = 0
staying_among counts file (r ∷ rs) [] = 0
staying_among counts file (r ∷ rs) (state ∷ states) =
    count_if (is_hit counts file r state && stays file r) 1
    + staying_among counts file rs states

-- no entries; an absent result is suppressed by its own suppressions alone
abbrev pub no_entries : File → File
no_entries file = record { entries = []; today = file.today }

-- how many results of baselines that no current result matches are hits; an entry suppresses none of them
abbrev pub absent_hits : MayBeHit → File → List Record → List Bool → ℕ
absent_hits counts file [] taken = 0
absent_hits counts file (r ∷ rs) [] = 0
absent_hits counts file (r ∷ rs) (taken ∷ more) =
    count_if (not taken && is_hit counts (no_entries file) r Absent) 1
    + absent_hits counts file rs more

-- without a policy: with a change no absent result is a hit
abbrev pub absent_by : Marks → ℕ → ℕ
absent_by None n = n
absent_by (Some hidden) n = 0

-- how many results of the baselines that the gate checks are hits
abbrev pub absent_stay : Merge → ℕ
absent_stay m =
    unwrap_or m.absent
    (absent_by m.hidden (absent_hits (may_hit m.policy) m.file m.known m.taken))

-- how many hits among current results stay hits; if not all are chosen, how many are neither accepted nor alike
abbrev pub current_stay : Merge → Renewal → Marks → ℕ
current_stay m renewal None =
    staying_among (may_hit m.policy) m.file (records_shown m) (states_shown m)
current_stay m renewal (Some marks) =
    length (others_among (may_hit m.policy) m.file (entries_added m renewal) marks
    (records_shown m) (states_shown m))

abbrev pub stay_in : Merge → Renewal → ℕ
stay_in m renewal = current_stay m renewal (chosen_shown m) + absent_stay m

-- the new file, as it is given
abbrev pub renewed : Merge → Renewal → NewFile
renewed m renewal = record {
  text = file_text (rules_after m renewal);
  accepted = count_if renewal.accept (length (accepted_in m));
  alike = alike_told m renewal;
  stay = count_if renewal.accept (stay_in m renewal);
  pruned = count_by (λ kept. not kept) (kept_in m renewal);
  entries = entries_count m renewal;
}

-- ---- its errors: one that could not be read again

-- more entries, or otherwise more bytes, than a suppression file may have
abbrev pub text_faults : ℕ → Data → List MergeFault
text_faults entries value =
    if nat_lt most_entries entries then fault_at (Whole Suppress) (cause_of TooMany) ∷ []
    else (if nat_lt most_bytes (length (file_text value))
    then fault_at (Whole Suppress) TooLong ∷ [] else [])

abbrev pub renewal_faults : Merge → Renewal → List MergeFault
renewal_faults m renewal = text_faults (entries_count m renewal) (rules_after m renewal)
