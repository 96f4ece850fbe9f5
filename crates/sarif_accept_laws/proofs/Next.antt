-- In the next merge of the same results, each entry of the new file matches the results that it matched before.
use Rattle.std.proofs.Common.{◌≡◌, ℕ, zero, suc, ◌+◌, Bool, true, false, not, ◌&&◌, ◌||◌, cond, List, [], ◌∷◌, ◌++◌, map, filter, Option, Some, None, Ok, nat_le, refl, sym, ap, ap₂, ◌∙◌, arith, subst}
use mathlib.Core.Bool.{and-true}
use Rattle.std.specs.Prelude.{Result, count_by, slice_get}
use Rattle.std.specs.List.{AllByRecursion, list_any}
use Rattle.std.specs.Option.{option_map_or}
use Rattle.std.proofs.lemmas.List.Sums.{sum_by-cons}
use Rattle.std.proofs.lemmas.Option.{same_Some}
use Rattle.serde_json.specs.Data.{Data}
use Rattle.sarif_model.specs.declared.record.Record.{Record}
use Rattle.sarif_entries.specs.declared.entry.Entry.{Entry}
use Rattle.sarif_entries.specs.declared.fault.FileFault.{FileFault}
use Rattle.sarif_entries.specs.declared.limit.Limit.{Limit}
use Rattle.sarif_entries.specs.File.{File}
use Rattle.sarif_entries.specs.Given.{file_or_none}
use Rattle.sarif_entries.specs.Matching.{is_met, matches}
use Rattle.sarif_entries.specs.Numbering.{limit_with, numbered_from, with_number}
use Rattle.sarif_entries.proofs.EntryLimits.{numbered}
use Rattle.sarif_filing.proofs.Numbered.{has}
use Rattle.sarif_suppress.specs.Limited.{is_used_up_by, limited, limited_after, met_by, admitted_after}
use Rattle.sarif_suppress.specs.Suppressing.{is_unused, statuses_of, unused_of}
use Rattle.sarif_suppress.specs.Written.{with_object, with_objects, suppressions_of}
use Rattle.sarif_suppress.proofs.LimitedResults.{matches_first, met_admitted}
use Rattle.sarif_accept.specs.Adding.{How, entry_read}
use Rattle.sarif_accept.specs.Choosing.{entries_read, file_adding}
use Rattle.sarif_accept.specs.Keeping.{is_kept}
use Rattle.sarif_accept_laws.specs.Next.{after_others, next_adding}

-- ---- which results an entry matches after others

-- the result meets the entry, and those before it don't use it up
abbrev pub is_first : Option ℕ → List Record → Record → Entry → Bool
is_first today before r e = is_met today e r && not (is_used_up_by today before e)

-- the entry is met by a result that those before it don't use up
abbrev pub any_first : Option ℕ → List Record → List Record → Entry → Bool
any_first today before [] e = false
any_first today before (r ∷ rs) e = is_first today before r e || any_first today (before ++ r ∷ []) rs e

-- each limit has the number of its entry, where the first has number s
abbrev pub IsNumbered : ℕ → List Entry → Type 0
IsNumbered s es = (n : ℕ) (e : Entry) (limit : Limit) → slice_get es n ≡ Some e → e.limit ≡ Some limit → limit.number ≡ s + n

-- for any results before, the entry matches a result exactly if it meets the entry and those before don't use it up
abbrev pub CountsIn : File → Entry → Type 0
CountsIn file e = (before : List Record) (r : Record) → matches file.today e (after_others file before r) ≡ is_first file.today before r e

counts_at : (file : File) (n : ℕ) (e : Entry) → slice_get file.entries n ≡ Some e → ((limit : Limit) → e.limit ≡ Some limit → limit.number ≡ n) → CountsIn file e
counts_at file n e at numbers = λ before r. matches_first file before r n e at numbers

-- what is true at each place is true of all, and the other way round
all_from : (P : Entry → Type 0) (es : List Entry) → ((n : ℕ) (e : Entry) → slice_get es n ≡ Some e → P e) → AllByRecursion P es
all_from P [] each = tt
all_from P (e ∷ es) each = (each 0 e refl, all_from P es (λ n x at. each (suc n) x at))

all_at : (P : Entry → Type 0) (es : List Entry) (n : ℕ) (e : Entry) → AllByRecursion P es → slice_get es n ≡ Some e → P e
all_at P [] n e all at = let never : ⊥ = cc in absurd never
all_at P (x ∷ es) zero e all at = subst P (same_Some x e at) all.0
all_at P (x ∷ es) (suc n) e all at = all_at P es n e all.1 at

all_kept : (P : Entry → Type 0) (keep : Entry → Bool) (es : List Entry) → AllByRecursion P es → AllByRecursion P (filter keep es)
all_kept P keep [] all = tt
all_kept P keep (e ∷ es) all = by_test (keep e) (all_kept P keep es all.1)
  where
    by_test : (b : Bool) → AllByRecursion P (filter keep es) → AllByRecursion P (cond b (e ∷ filter keep es) (filter keep es))
    by_test true more = (all.0, more)
    by_test false more = more

all_both : (P : Entry → Type 0) (es fs : List Entry) → AllByRecursion P es → AllByRecursion P fs → AllByRecursion P (es ++ fs)
all_both P [] fs first second = second
all_both P (e ∷ es) fs first second = (first.0, all_both P es fs first.1 second)

all_count : (file : File) → IsNumbered 0 file.entries → AllByRecursion (CountsIn file) file.entries
all_count file numbers = all_from (CountsIn file) file.entries (λ n e at.
    counts_at file n e at (λ limit has. let own = numbers n e limit at has in omega (arith, own)))

-- entries that are made for results have no limit
made_count : (file : File) (rs : List Record) (reason : Option (List ℕ)) (until : Option ℕ) → AllByRecursion (CountsIn file) (map (λ x. entry_read x reason until) rs)
made_count file [] reason until = tt
made_count file (x ∷ xs) reason until = (
  λ before r. met_admitted file.today (entry_read x reason until) r (admitted_after file before r) ∙ sym (and-true (is_met file.today (entry_read x reason until) r)),
  made_count file xs reason until,
)

-- ---- entries with other numbers

numbered_again : (s : ℕ) (es : List Entry) → IsNumbered s (numbered_from s es)
numbered_again s [] n e limit at has = let never : ⊥ = cc in absurd never
numbered_again s (x ∷ es) zero e limit at has =
    let same : with_number s x ≡ e = same_Some (with_number s x) e at in
    by_limit x.limit (ap (λ (y : Entry). y.limit) same ∙ has)
  where
    by_limit : (own : Option Limit) → limit_with s own ≡ Some limit → limit.number ≡ s + 0
    by_limit None is = let never : ⊥ = cc in absurd never
    by_limit (Some own) is =
        let whole : record own { number = s } ≡ limit = same_Some (record own { number = s }) limit is in
        let number : s ≡ limit.number = ap (λ (l : Limit). l.number) whole in
        omega (arith, number)
numbered_again s (x ∷ es) (suc n) e limit at has =
    let more : limit.number ≡ (s + 1) + n = numbered_again (s + 1) es n e limit at has in
    omega (arith, more)

-- the entry at a place, before and with its number
pub entry_before : (s : ℕ) (es : List Entry) (n : ℕ) (later : Entry) → slice_get (numbered_from s es) n ≡ Some later
    → (e : Entry) × (slice_get es n ≡ Some e) × (later ≡ with_number (s + n) e)
entry_before s [] n later at = let never : ⊥ = cc in absurd never
entry_before s (x ∷ es) zero later at =
    let here : s ≡ s + 0 = omega arith in
    (x, refl, sym (same_Some (with_number s x) later at) ∙ ap (λ k. with_number k x) here)
entry_before s (x ∷ es) (suc n) later at =
    let more = entry_before (s + 1) es n later at in
    let next : (s + 1) + n ≡ s + suc n = omega arith in
    (more.0, more.1, more.2 ∙ ap (λ k. with_number k more.0) next)

used_up_numbered : (today : Option ℕ) (before : List Record) (n : ℕ) (e : Entry) → is_used_up_by today before (with_number n e) ≡ is_used_up_by today before e
used_up_numbered today before n e = by_limit e.limit
  where
    by_limit : (limit : Option Limit)
        → option_map_or (λ (l : Limit). nat_le l.most (met_by today e before)) (limit_with n limit) false
        ≡ option_map_or (λ (l : Limit). nat_le l.most (met_by today e before)) limit false
    by_limit None = refl
    by_limit (Some limit) = refl

first_numbered : (today : Option ℕ) (before : List Record) (r : Record) (n : ℕ) (e : Entry)
    → is_first today before r (with_number n e) ≡ is_first today before r e
first_numbered today before r n e = ap (λ b. is_met today e r && not b) (used_up_numbered today before n e)

any_numbered : (today : Option ℕ) (before rs : List Record) (n : ℕ) (e : Entry) → any_first today before rs (with_number n e) ≡ any_first today before rs e
any_numbered today before [] n e = refl
any_numbered today before (r ∷ rs) n e =
    ap₂ (λ a b. a || b) (first_numbered today before r n e) (any_numbered today (before ++ r ∷ []) rs n e)

module _ (test : Entry → Bool) (alike : (n : ℕ) (e : Entry) → test (with_number n e) ≡ test e) where
  statuses_numbered : (n : ℕ) (es : List Entry)
      → map (λ (e : Entry). e.status) (filter test (numbered_from n es)) ≡ map (λ (e : Entry). e.status) (filter test es)
  statuses_numbered n [] = refl
  statuses_numbered n (e ∷ es) =
      ap (λ b. map (λ (x : Entry). x.status) (cond b (with_number n e ∷ filter test (numbered_from (n + 1) es)) (filter test (numbered_from (n + 1) es)))) (alike n e)
      ∙ by_test (test e) (statuses_numbered (n + 1) es)
    where
      by_test : (b : Bool)
          → map (λ (x : Entry). x.status) (filter test (numbered_from (n + 1) es)) ≡ map (λ (x : Entry). x.status) (filter test es)
          → map (λ (x : Entry). x.status) (cond b (with_number n e ∷ filter test (numbered_from (n + 1) es)) (filter test (numbered_from (n + 1) es)))
          ≡ map (λ (x : Entry). x.status) (cond b (e ∷ filter test es) (filter test es))
      by_test true more = ap (λ l. e.status ∷ l) more
      by_test false more = more

  objects_numbered : (list : List Data) (n : ℕ) (es : List Entry)
      → with_objects list (filter test (numbered_from n es)) ≡ with_objects list (filter test es)
  objects_numbered list n [] = refl
  objects_numbered list n (e ∷ es) =
      ap (λ b. with_objects list (cond b (with_number n e ∷ filter test (numbered_from (n + 1) es)) (filter test (numbered_from (n + 1) es)))) (alike n e)
      ∙ by_test (test e) (λ given. objects_numbered given (n + 1) es)
    where
      by_test : (b : Bool)
          → ((given : List Data) → with_objects given (filter test (numbered_from (n + 1) es)) ≡ with_objects given (filter test es))
          → with_objects list (cond b (with_number n e ∷ filter test (numbered_from (n + 1) es)) (filter test (numbered_from (n + 1) es)))
          ≡ with_objects list (cond b (e ∷ filter test es) (filter test es))
      by_test true more = more (with_object list e)
      by_test false more = more list

  count_numbered : (n : ℕ) (es : List Entry) → count_by test (numbered_from n es) ≡ count_by test es
  count_numbered n [] = refl
  count_numbered n (e ∷ es) =
      sum_by-cons (λ x. cond (test x) 1 0) (with_number n e) (numbered_from (n + 1) es)
      ∙ ap₂ (λ a b. a + b) (ap (λ b. cond b 1 0) (alike n e)) (count_numbered (n + 1) es)
      ∙ sym (sum_by-cons (λ x. cond (test x) 1 0) e es)

-- ---- what the entries of a file make of a result

-- the limits of a file that was read have the numbers of their entries
pub given_numbered : (given : Option (List ℕ)) (today : Option ℕ) (file : File) → file_or_none given today ≡ Ok file → IsNumbered 0 file.entries
given_numbered None today file is = λ n e limit at has.
    let none : slice_get [] n ≡ Some e = ap (λ (f : File). slice_get f.entries n) (same_file (record { entries = []; today = today }) file is) ∙ at in
    let never : ⊥ = cc in absurd never
  where
    same_file : (a b : File) → ◌≡◌ {A = Result File FileFault} (Ok a) (Ok b) → a ≡ b
    same_file a b e = cc
given_numbered (Some bytes) today file is = λ n e limit at has. let own = (numbered bytes today file n e limit is at has).0 in omega (arith, own)

module _ (file : File) where
  filter_first : (before : List Record) (r : Record) (es : List Entry) → AllByRecursion (CountsIn file) es
      → filter (λ e. matches file.today e (after_others file before r)) es ≡ filter (is_first file.today before r) es
  filter_first before r [] all = refl
  filter_first before r (e ∷ es) all =
      ap₂ (λ b l. cond b (e ∷ l) l) (all.0 before r) (filter_first before r es all.1)

  any_counted : (before rs : List Record) (e : Entry) → CountsIn file e
      → list_any (λ r. matches file.today e r) (limited_after file before rs) ≡ any_first file.today before rs e
  any_counted before [] e counts = refl
  any_counted before (r ∷ rs) e counts = ap₂ (λ a b. a || b) (counts before r) (any_counted (before ++ r ∷ []) rs e counts)

  unused_counted : (rs : List Record) (es : List Entry) → AllByRecursion (CountsIn file) es
      → count_by (λ e. not (list_any (λ r. matches file.today e r) (limited file rs))) es
      ≡ count_by (λ e. not (any_first file.today [] rs e)) es
  unused_counted rs [] all = refl
  unused_counted rs (e ∷ es) all =
      sum_by-cons (λ x. cond (not (list_any (λ r. matches file.today x r) (limited file rs))) 1 0) e es
      ∙ ap₂ (λ a b. a + b) (ap (λ b. cond (not b) 1 0) (any_counted [] rs e all.0)) (unused_counted rs es all.1)
      ∙ sym (sum_by-cons (λ x. cond (not (any_first file.today [] rs x)) 1 0) e es)

-- ---- the same result with the new file

module _ (how : How) (file : File) (rs added : List Record) (numbers : IsNumbered 0 file.entries) where
  abbrev whole : File
  whole = file_adding how file rs added

  abbrev next : File
  next = next_adding how file rs added

  whole_count : AllByRecursion (CountsIn file) whole.entries
  whole_count =
      all_both (CountsIn file) (filter (is_kept how.renewal.prune how.heard file rs) file.entries) (entries_read how added)
      (all_kept (CountsIn file) (is_kept how.renewal.prune how.heard file rs) file.entries (all_count file numbers))
      (made_count file added how.renewal.reason how.renewal.until)

  next_count : AllByRecursion (CountsIn next) next.entries
  next_count = all_count next (numbered_again 0 whole.entries)

  -- an entry matches the result exactly if it did
  pub same_matches : (before : List Record) (r : Record) (n : ℕ) (e later : Entry) → slice_get whole.entries n ≡ Some e → slice_get next.entries n ≡ Some later
      → matches file.today later (after_others next before r) ≡ matches file.today e (after_others file before r)
  same_matches before r n e later at there =
      let own = entry_before 0 whole.entries n later there in
      let same : own.0 ≡ e = same_Some own.0 e (sym own.1 ∙ at) in
      all_at (CountsIn next) next.entries n later next_count there before r
      ∙ ap (is_first file.today before r) (own.2 ∙ ap (with_number (0 + n)) same)
      ∙ first_numbered file.today before r (0 + n) e
      ∙ sym (all_at (CountsIn file) whole.entries n e whole_count at before r)

  -- the result has the same statuses and the same suppressions
  pub same_statuses : (before : List Record) (r : Record)
      → statuses_of next (after_others next before r) ≡ statuses_of whole (after_others file before r)
  same_statuses before r =
      let test : Entry → Bool = is_first file.today before r in
      ap (λ es. r.held ++ map (λ (e : Entry). e.status) es) (filter_first next before r next.entries next_count)
      ∙ ap (λ l. r.held ++ l) (statuses_numbered test (first_numbered file.today before r) 0 whole.entries)
      ∙ sym (ap (λ es. r.held ++ map (λ (e : Entry). e.status) es) (filter_first file before r whole.entries whole_count))

  pub same_suppressions : (own : List Data) (before : List Record) (r : Record)
      → suppressions_of own next (after_others next before r) ≡ suppressions_of own whole (after_others file before r)
  same_suppressions own before r =
      let test : Entry → Bool = is_first file.today before r in
      ap (with_objects own) (filter_first next before r next.entries next_count)
      ∙ objects_numbered test (first_numbered file.today before r) own 0 whole.entries
      ∙ sym (ap (with_objects own) (filter_first file before r whole.entries whole_count))

  -- an entry is unused exactly if it was
  pub same_unused : (all : List Record) (n : ℕ) (e later : Entry) → slice_get whole.entries n ≡ Some e → slice_get next.entries n ≡ Some later
      → is_unused next (limited next all) later ≡ is_unused whole (limited file all) e
  same_unused all n e later at there =
      let own = entry_before 0 whole.entries n later there in
      let same : own.0 ≡ e = same_Some own.0 e (sym own.1 ∙ at) in
      ap not (any_counted next [] all later (all_at (CountsIn next) next.entries n later next_count there)
      ∙ ap (any_first file.today [] all) (own.2 ∙ ap (with_number (0 + n)) same)
      ∙ any_numbered file.today [] all (0 + n) e
      ∙ sym (any_counted file [] all e (all_at (CountsIn file) whole.entries n e whole_count at)))

  pub as_many_unused : (all : List Record) → unused_of next (limited next all) ≡ unused_of whole (limited file all)
  as_many_unused all =
      unused_counted next all next.entries next_count
      ∙ count_numbered (λ e. not (any_first file.today [] all e)) (λ n e. ap not (any_numbered file.today [] all n e)) 0 whole.entries
      ∙ sym (unused_counted file all whole.entries whole_count)
