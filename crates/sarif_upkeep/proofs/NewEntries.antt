-- The entries of the new suppression file.
use Rattle.std.proofs.Common.{◌≡◌, ◌+◌, ◌<◌, ℕ, suc, Bool, true, false, not, List, [], ◌∷◌, Option, Some, None, map, filter, length, length-append, refl, sym, ap, ◌∙◌, arith, if◌then◌else◌}
use Rattle.std.proofs.lemmas.List.{length-map}
use Rattle.std.proofs.lemmas.List.Sums.{length-filter}
use Rattle.std.specs.Borrow.{Bor}
use Rattle.std.specs.Prelude.{Ok, count_by, nat_lt, option_and_then, option_map, unwrap_or, codes, ok_or}
use Rattle.std.proofs.lemmas.Bool.Decides.{nat_tests}
use Rattle.serde_json.specs.Data.{Data, object, no_members}
use Rattle.serde_json.specs.Find.{as_array, get}
use Rattle.json_parts.specs.Indexed.{json_of}
use Rattle.json_parts.specs.Mark.{without_mark}
use Rattle.sarif_evidence.specs.Seen.{as_matched}
use Rattle.sarif_model.specs.declared.record.Record.{Record}
use Rattle.sarif_model.specs.Run.{elements_or_none}
use Rattle.sarif_options.specs.declared.upkeep.Renewal.{Renewal}
use Rattle.sarif_counts.specs.Hits.{count_if}
use Rattle.sarif_entries.specs.declared.entry.Entry.{Entry}
use Rattle.sarif_entries.specs.declared.version.Version.{Version}
use Rattle.sarif_entries.specs.Entries.{entry_of}
use Rattle.sarif_entries.specs.File.{check_count, check_list, check_version, entries_from, file_of, file_of_value, File}
use Rattle.sarif_read.proofs.WholeRuns.{bind_ok}
use Rattle.sarif_accept.specs.Adding.{once_each}
use Rattle.sarif_accept.specs.Entry.{entry_for}
use Rattle.sarif_accept.specs.Keeping.{chosen, is_kept}
use Rattle.sarif_accept.specs.NewFile.{entries_after, entries_in, file_object, file_text, new_file, stripped_in}
use Rattle.sarif_accept.proofs.CheckedList.{checked_list}
use Rattle.sarif_upkeep.proofs.Shown.{each_shown}
use Rattle.sarif_heard.specs.Heard.{heard}
use Rattle.sarif_upkeep.specs.Internal.IsMatched.{IsFileOf}
use Rattle.sarif_upkeep.specs.Internal.Making.{entries_of, file_of as made_of}
use Rattle.sarif_upkeep.specs.Merge.{Merge}
use Rattle.sarif_upkeep.specs.Renewed.{accepted_in, added_in, entries_count, kept_in, renewal_faults, rules_after, text_faults, values_added}
use Rattle.sarif_entries.specs.FileFault.{whole}
use Rattle.sarif_model.specs.FirstFault.{first}
use Rattle.sarif_model.specs.Limits.{most_bytes, most_entries}
use Rattle.sarif_model.specs.MergeFault.{cause_of, fault_at}
use Rattle.sarif_model.specs.declared.fault.Fault.TheVariants.{NotJson, TooMany}
use Rattle.sarif_model.specs.declared.merge_fault.At.TheVariants.{Whole}
use Rattle.sarif_model.specs.declared.merge_fault.Cause.TheVariants.{TooLong}
use Rattle.sarif_model.specs.declared.merge_fault.Source.TheVariants.{Suppress}

-- ---- as many entries as were read

pub entries_long : (version : Version) (today : Option ℕ) (n : ℕ) (ds : List Data) (es : List Entry)
    → entries_from version today n ds ≡ Ok es → length es ≡ length ds
unfolding entries_from
entries_long version today n [] es is = let same : [] ≡ es = cc in ap length (sym same)
entries_long version today n (d ∷ ds) es is =
    let first = bind_ok (entry_of version today n d) _ es is in
    let rest = bind_ok (entries_from version today (n + 1) ds) _ es first.2 in
    let same : first.0 ∷ rest.0 ≡ es = cc rest.2 in
    ap length (sym same) ∙ ap suc (entries_long version today (n + 1) ds rest.0 rest.1)

found_value : (o : Option Data) (d : Data) → ok_or o (whole NotJson) ≡ Ok d → unwrap_or o (object no_members) ≡ d
found_value None d is = let never : ⊥ = cc in absurd never
found_value (Some x) d is = cc

read_long : (bytes : List ℕ) (file : File) → file_of bytes file.today ≡ Ok file → length file.entries ≡ length (entries_in (file_object (Some bytes)))
unfolding file_of file_of_value
read_long bytes file is =
    let parsed = bind_ok (ok_or (json_of (without_mark bytes)) (whole NotJson)) _ file is in
    let d = parsed.0 in
    let list = bind_ok (check_list d) _ file parsed.2 in
    let version = bind_ok (check_version d) _ file list.2 in
    let count = bind_ok (check_count list.0) _ file version.2 in
    let es = bind_ok (entries_from version.0 file.today 0 list.0) _ file count.2 in
    let same : ◌≡◌ {A = File} (record { entries = es.0; today = file.today }) file = cc es.2 in
    ap (λ (f : File). length f.entries) (sym same)
    ∙ entries_long version.0 file.today 0 list.0 es.0 es.1
    ∙ ap length (sym (checked_list (option_and_then as_array (get (codes "suppressions") d)) list.0 list.1))
    ∙ sym (length-map (elements_or_none (option_and_then as_array (get (codes "suppressions") d))) (λ e. object (stripped_in e)))
    ∙ ap (λ x. length (entries_in x)) (sym (found_value (json_of (without_mark bytes)) d parsed.1))

pub values_long : (bytes : Option (List ℕ)) (file : File) → IsFileOf bytes file → length file.entries ≡ length (entries_in (file_object bytes))
values_long None file none = ap length none
values_long (Some bytes) file is = read_long bytes file is

-- ---- how many are kept

chosen_some : (marks : List Bool) (ds : List Data) → length marks ≡ length ds → length (chosen marks ds) ≡ length (filter (λ mark. mark) marks)
chosen_some [] ds same = refl
chosen_some (mark ∷ marks) [] same = absurd (omega (arith, same))
chosen_some (true ∷ marks) (d ∷ ds) same = ap suc (chosen_some marks ds (omega (arith, same)))
chosen_some (false ∷ marks) (d ∷ ds) same = chosen_some marks ds (omega (arith, same))

chosen_long : (marks : List Bool) (ds : List Data) → length marks ≡ length ds → length (chosen marks ds) ≡ count_by (λ mark. mark) marks
chosen_long marks ds same = chosen_some marks ds same ∙ length-filter (λ mark. mark) marks

-- ---- the entries that are added

long_if : (accept : Bool) (rs : List Record) → length (if accept then rs else []) ≡ count_if accept (length rs)
long_if true rs = refl
long_if false rs = refl

once_if : (accept : Bool) (f : Record → Record) (rs : List Record)
    → once_each [] (map f (if accept then rs else [])) ≡ (if accept then once_each [] (map f rs) else [])
once_if true f rs = refl
once_if false f rs = refl

-- the results for which entries are added, of those that are accepted
added_by : (m : Merge) (renewal : Renewal) (accepted : List (Bor Record)) → map (λ r. r.now) accepted ≡ (if renewal.accept then accepted_in m else [])
    → once_each [] (map (λ r. as_matched m.matching r.now) accepted) ≡ added_in m renewal
added_by m renewal accepted is =
    ap (once_each []) (each_shown m.matching accepted ∙ ap (map (as_matched m.matching)) is)
    ∙ once_if renewal.accept (as_matched m.matching) (accepted_in m)

-- more of them than a file may have are too many
pub too_many : (m : Merge) (renewal : Renewal) (accepted : List (Bor Record)) (shown : List Record)
    → shown ≡ map (λ r. as_matched m.matching r.now) accepted
    → map (λ r. r.now) accepted ≡ (if renewal.accept then accepted_in m else [])
    → most_entries < length (once_each [] shown) → first (renewal_faults m renewal) ≡ Some (fault_at (Whole Suppress) (cause_of TooMany))
too_many m renewal accepted shown shown_is accepted_is many =
    let kept = chosen (kept_in m renewal) (entries_in (file_object m.bytes)) in
    let same : length (once_each [] shown) ≡ length (added_in m renewal) =
    ap (λ l. length (once_each [] l)) shown_is ∙ ap length (added_by m renewal accepted accepted_is) in
    let back = length-map (added_in m renewal) (λ r. entry_for r renewal.reason renewal.until) in
    let joined = length-append kept (values_added m renewal) in
    let more : most_entries < entries_count m renewal = omega (arith, many, same, back, joined) in
    let over : nat_lt most_entries (entries_count m renewal) ≡ true = grind (arith, nat_tests) in
    ap
    (λ b. first
    (if b then fault_at (Whole Suppress) (cause_of TooMany) ∷ []
    else (if nat_lt most_bytes (length (file_text (rules_after m renewal))) then fault_at (Whole Suppress) TooLong ∷ [] else []))) over

module _ (m : Merge) (renewal : Renewal) (bytes : Option (Bor (List ℕ))) (kept : List Bool) (accepted added : List (Bor Record))
    (bytes_are : option_map (λ b. b.now) bytes ≡ m.bytes) (kept_is : kept ≡ kept_in m renewal)
    (accepted_is : map (λ r. r.now) accepted ≡ (if renewal.accept then accepted_in m else []))
    (added_is : map (λ r. r.now) added ≡ once_each [] (map (λ r. as_matched m.matching r.now) accepted)) where
  pub added_are : map (λ r. r.now) added ≡ added_in m renewal
  added_are = added_is ∙ added_by m renewal accepted accepted_is

  made_values : map (λ r. entry_for r renewal.reason renewal.until) (map (λ r. r.now) added) ≡ values_added m renewal
  made_values = ap (map (λ r. entry_for r renewal.reason renewal.until)) added_are

  pub file_is : made_of bytes kept added renewal ≡ rules_after m renewal
  file_is =
      ap (λ b. new_file (file_object b) kept (map (λ r. entry_for r renewal.reason renewal.until) (map (λ r. r.now) added))) bytes_are
      ∙ ap (λ k. new_file (file_object m.bytes) k (map (λ r. entry_for r renewal.reason renewal.until) (map (λ r. r.now) added))) kept_is
      ∙ ap (new_file (file_object m.bytes) (kept_in m renewal)) made_values

  pub entries_are : entries_of bytes kept added renewal ≡ entries_count m renewal
  entries_are =
      ap (λ b. length (entries_after (file_object b) kept (map (λ r. entry_for r renewal.reason renewal.until) (map (λ r. r.now) added)))) bytes_are
      ∙ ap (λ k. length (entries_after (file_object m.bytes) k (map (λ r. entry_for r renewal.reason renewal.until) (map (λ r. r.now) added)))) kept_is
      ∙ ap (λ vs. length (entries_after (file_object m.bytes) (kept_in m renewal) vs)) made_values

  pub faults_are : text_faults (entries_of bytes kept added renewal) (made_of bytes kept added renewal) ≡ renewal_faults m renewal
  faults_are = ap (λ n. text_faults n (made_of bytes kept added renewal)) entries_are ∙ ap (text_faults (entries_count m renewal)) file_is

  pub accepted_count : length accepted ≡ count_if renewal.accept (length (accepted_in m))
  accepted_count = sym (length-map accepted (λ r. r.now)) ∙ ap length accepted_is ∙ long_if renewal.accept (accepted_in m)

  pub added_count : length added ≡ length (added_in m renewal)
  added_count = sym (length-map added (λ r. r.now)) ∙ ap length added_are

-- ---- its numbers

split_marks : (marks : List Bool) → length (filter (λ mark. mark) marks) + length (filter not marks) ≡ length marks
split_marks [] = refl
split_marks (true ∷ marks) = let rest = split_marks marks in omega (arith, rest)
split_marks (false ∷ marks) = let rest = split_marks marks in omega (arith, rest)

pub kept_or_not : (marks : List Bool) → count_by (λ mark. mark) marks + count_by (λ mark. not mark) marks ≡ length marks
kept_or_not marks =
    let kept = length-filter (λ mark. mark) marks in
    let gone = length-filter not marks in
    let all = split_marks marks in
    omega (arith, kept, gone, all)

pub kept_long : (m : Merge) (renewal : Renewal) → length (kept_in m renewal) ≡ length m.file.entries
kept_long m renewal = length-map m.file.entries (is_kept renewal.prune (heard m.runs) m.file m.records)

pub entries_number : (m : Merge) (renewal : Renewal) → IsFileOf m.bytes m.file
    → entries_count m renewal ≡ count_by (λ mark. mark) (kept_in m renewal) + length (added_in m renewal)
entries_number m renewal read =
    let d = file_object m.bytes in
    let kept = kept_in m renewal in
    let joined = length-append (chosen kept (entries_in d)) (values_added m renewal) in
    let front = chosen_long kept (entries_in d) (kept_long m renewal ∙ values_long m.bytes m.file read) in
    let back = length-map (added_in m renewal) (λ r. entry_for r renewal.reason renewal.until) in
    omega (arith, joined, front, back)
