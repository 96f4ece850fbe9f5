-- What a new suppression file makes of results. Its entries have other positions, and each matches the same results as
-- before.
use Rattle.std.proofs.Common.{◌≡◌, ℕ, zero, suc, ◌+◌, Bool, true, false, not, ◌&&◌, List, [], ◌∷◌, ◌++◌, map, take, Option, Some, None, Ok, nat_le, slice_get, refl, sym, ap, ap₂, ◌∙◌, arith, if◌then◌else◌}
use mathlib.Core.Bool.{and-true}
use Rattle.std.specs.Prelude.{filter}
use Rattle.std.specs.Option.{option_map_or}
use Rattle.std.proofs.lemmas.List.Elements.{filter-append}
use Rattle.std.proofs.lemmas.Option.{same_Some}
use Rattle.serde_json.specs.Data.{Data, null, boolean, number, string, array, object}
use Rattle.serde_json.specs.View.{items_of}
use Rattle.sarif_model.specs.declared.kinds.State.{State}
use Rattle.sarif_model.specs.declared.record.Record.{Record}
use Rattle.sarif_model.specs.Members.{elements}
use Rattle.sarif_match_laws.proofs.Keyed.{filter_swap}
use Rattle.sarif_results.specs.Annotated.{annotated_members, own_suppressions}
use Rattle.sarif_results.specs.Drafts.{Listing}
use Rattle.sarif_entries.specs.declared.entry.Entry.{Entry}
use Rattle.sarif_entries.specs.declared.limit.Limit.{Limit}
use Rattle.sarif_entries.specs.File.{File, file_of}
use Rattle.sarif_entries.specs.Given.{file_or_none}
use Rattle.sarif_entries.specs.Matching.{is_met, matches}
use Rattle.sarif_entries.specs.Numbering.{limit_with, numbered_from, renumbered, with_number}
use Rattle.sarif_suppress.specs.Limited.{is_used_up_by, limited, met_by, with_admitted}
use Rattle.sarif_suppress.specs.Suppressing.{is_suppressed, matching, statuses_suppress}
use Rattle.sarif_suppress.specs.Written.{suppressions_of, with_object, with_objects}
use Rattle.sarif_suppress.proofs.LimitedResults.{first_match, met_admitted}
use Rattle.sarif_accept.specs.Adding.{How, entry_read}
use Rattle.sarif_accept.specs.Choosing.{entries_read, file_adding}
use Rattle.sarif_accept.specs.Keeping.{is_kept}
use Rattle.sarif_log.specs.MergedRuns.{written}
use Rattle.sarif_laws.proofs.Read.{ok_is}
use Rattle.sarif_laws.proofs.Zipped.{filter_same}

-- ---- an entry and the results before

-- the result meets the entry, and those before it don't use it up
abbrev pub fits : Option ℕ → List Record → Record → Entry → Bool
fits today before r e = is_met today e r && not (is_used_up_by today before e)

-- an entry of the file that was given matches the first results that meet it
pub first_given : (given : Option (List ℕ)) (today : Option ℕ) (file : File) (rs : List Record) (i n : ℕ) (r found : Record) (e : Entry)
    → file_or_none given today ≡ Ok file → slice_get file.entries n ≡ Some e → slice_get rs i ≡ Some r
    → slice_get (limited file rs) i ≡ Some found → matches file.today e found ≡ fits file.today (take i rs) r e
first_given None today file rs i n r found e read at within is =
    let none : [] ≡ file.entries = ap (λ (f : File). f.entries) (ok_is {A = File} (record { entries = []; today = today }) file read) in
    let never : ⊥ = let no : slice_get [] n ≡ Some e = ap (λ xs. slice_get xs n) none ∙ at in cc in
    absurd never
first_given (Some bytes) today file rs i n r found e read at within is = first_match bytes today file rs i n r found e read at within is

-- ---- entries with other numbers

module _ (today : Option ℕ) (before : List Record) where
  by_limit : (e : Entry) (n : ℕ) (limit : Option Limit)
      → option_map_or (λ (l : Limit). nat_le l.most (met_by today e before)) (limit_with n limit) false
      ≡ option_map_or (λ (l : Limit). nat_le l.most (met_by today e before)) limit false
  by_limit e n None = refl
  by_limit e n (Some limit) = refl

  pub fits_numbered : (r : Record) (n : ℕ) (e : Entry) → fits today before r (with_number n e) ≡ fits today before r e
  fits_numbered r n e = ap (λ b. is_met today e r && not b) (by_limit e n e.limit)

pub numbered_at : (s i : ℕ) (es : List Entry) (e : Entry) → slice_get (numbered_from s es) i ≡ Some e
    → (x : Entry) × (slice_get es i ≡ Some x) × (e ≡ with_number (s + i) x)
numbered_at s i [] e is = let never : ⊥ = cc in absurd never
numbered_at s zero (x ∷ es) e is =
    let here : s ≡ s + 0 = omega arith in
    (x, refl, sym (same_Some (with_number s x) e is) ∙ ap (λ n. with_number n x) here)
numbered_at s (suc i) (x ∷ es) e is =
    let rest = numbered_at (s + 1) i es e is in
    let next : (s + 1) + i ≡ s + suc i = omega arith in
    (rest.0, rest.1, rest.2 ∙ ap (λ n. with_number n rest.0) next)

-- a test that doesn't depend on numbers
module _ (test : Entry → Bool) (same : (n : ℕ) (e : Entry) → test (with_number n e) ≡ test e) where
  numbered_statuses : (s : ℕ) (es : List Entry)
      → map (λ (e : Entry). e.status) (filter test (numbered_from s es)) ≡ map (λ (e : Entry). e.status) (filter test es)
  numbered_statuses s [] = refl
  numbered_statuses s (e ∷ es) =
      let more = filter test (numbered_from (s + 1) es) in
      ap (λ b. map (λ (x : Entry). x.status) (if b then with_number s e ∷ more else more)) (same s e)
      ∙ by_test more (filter test es) (test e) (numbered_statuses (s + 1) es)
    where
      by_test : (xs ys : List Entry) (b : Bool) → map (λ (x : Entry). x.status) xs ≡ map (λ (x : Entry). x.status) ys
          → map (λ (x : Entry). x.status) (if b then with_number s e ∷ xs else xs) ≡ map (λ (x : Entry). x.status) (if b then e ∷ ys else ys)
      by_test xs ys true rest = ap (λ l. e.status ∷ l) rest
      by_test xs ys false rest = rest

  numbered_objects : (s : ℕ) (es : List Entry) (own : List Data) → with_objects own (filter test (numbered_from s es)) ≡ with_objects own (filter test es)
  numbered_objects s [] own = refl
  numbered_objects s (e ∷ es) own =
      let more = filter test (numbered_from (s + 1) es) in
      ap (λ b. with_objects own (if b then with_number s e ∷ more else more)) (same s e)
      ∙ by_test more (filter test es) (test e) (λ list. numbered_objects (s + 1) es list)
    where
      by_test : (xs ys : List Entry) (b : Bool) → ((list : List Data) → with_objects list xs ≡ with_objects list ys)
          → with_objects own (if b then with_number s e ∷ xs else xs) ≡ with_objects own (if b then e ∷ ys else ys)
      by_test xs ys true rest = rest (with_object own e)
      by_test xs ys false rest = rest own

-- ---- the new file

module _ (given : Option (List ℕ)) (text : List ℕ) (today : Option ℕ) (file : File) (how : How) (all added rs : List Record)
    (old : file_or_none given today ≡ Ok file) (new : file_of text today ≡ Ok (renumbered (file_adding how file all added))) where
  -- its entries with the numbers that they had
  abbrev later : File
  later = file_adding how file all added

  -- an entry of the file that is kept matches the same results
  pub same_matches : (i m n : ℕ) (r before after : Record) (e x : Entry) → slice_get file.entries n ≡ Some x
      → slice_get (renumbered later).entries m ≡ Some e → e ≡ with_number m x → slice_get rs i ≡ Some r
      → slice_get (limited file rs) i ≡ Some before → slice_get (limited (renumbered later) rs) i ≡ Some after
      → matches file.today e after ≡ matches file.today x before
  same_matches i m n r before after e x at_old at_new same at is_before is_after =
      first_match text today (renumbered later) rs i m r after e new at_new at is_after
      ∙ ap (fits file.today (take i rs) r) same ∙ fits_numbered file.today (take i rs) r m x
      ∙ sym (first_given given today file rs i n r before x old at_old at is_before)

  module _ (i : ℕ) (r : Record) (before after : List ℕ) (at : slice_get rs i ≡ Some r)
      (at_old : slice_get (limited file rs) i ≡ Some (with_admitted r before))
      (at_new : slice_get (limited (renumbered later) rs) i ≡ Some (with_admitted r after)) where
    abbrev test : Entry → Bool
    test e = fits file.today (take i rs) r e

    matching_new : matching (renumbered later) (with_admitted r after) ≡ filter test (numbered_from 0 later.entries)
    matching_new =
        filter_same (λ e. matches file.today e (with_admitted r after)) test (numbered_from 0 later.entries)
        (λ n e is. first_match text today (renumbered later) rs i n r (with_admitted r after) e new is at at_new)

    matching_old : matching file (with_admitted r before) ≡ filter test file.entries
    matching_old =
        filter_same (λ e. matches file.today e (with_admitted r before)) test file.entries
        (λ n e is. first_given given today file rs i n r (with_admitted r before) e old is at at_old)

    -- entries that are added have no limit
    made_same : (xs : List Record)
        → filter (λ e. matches file.today e (with_admitted r before)) (map (λ x. entry_read x how.renewal.reason how.renewal.until) xs)
        ≡ filter test (map (λ x. entry_read x how.renewal.reason how.renewal.until) xs)
    made_same [] = refl
    made_same (x ∷ xs) =
        let e = entry_read x how.renewal.reason how.renewal.until in
        ap₂ (λ b l. if b then e ∷ l else l) (met_admitted file.today e r before ∙ sym (and-true (is_met file.today e r))) (made_same xs)

    matching_kept : matching later (with_admitted r before) ≡ filter test later.entries
    matching_kept =
        let keep = is_kept how.renewal.prune how.heard file all in
        let fit : Entry → Bool = λ e. matches file.today e (with_admitted r before) in
        let made = entries_read how added in
        filter-append fit (filter keep file.entries) made
        ∙ ap₂ (λ xs ys. xs ++ ys)
        (filter_swap fit keep file.entries ∙ ap (filter keep) matching_old ∙ filter_swap keep test file.entries)
        (made_same added)
        ∙ sym (filter-append test (filter keep file.entries) made)

    pub suppressed_later : is_suppressed (renumbered later) (with_admitted r after) ≡ is_suppressed later (with_admitted r before)
    suppressed_later =
        ap (λ ss. statuses_suppress (r.held ++ ss))
        (ap (map (λ (e : Entry). e.status)) matching_new
        ∙ numbered_statuses test (fits_numbered file.today (take i rs) r) 0 later.entries
        ∙ sym (ap (map (λ (e : Entry). e.status)) matching_kept))

    pub listed_later : (own : List Data) → suppressions_of own (renumbered later) (with_admitted r after) ≡ suppressions_of own later (with_admitted r before)
    listed_later own =
        ap (with_objects own) matching_new
        ∙ numbered_objects test (fits_numbered file.today (take i rs) r) 0 later.entries own
        ∙ sym (ap (with_objects own) matching_kept)

-- ---- what is written

-- a record by a listing is written as another by another: they have the same level and the same suppressions
pub record IsAlike (one other : Listing) (a b : Record) : Type 0 where
  pub level : a.level ≡ b.level
  pub listed : (own : List Data) → one a own ≡ other b own

pub alike_result : (one other : Listing) (a b : Record) (state : State) (d : Data) → IsAlike one other a b → written one a state d ≡ written other b state d
alike_result one other a b state null alike = refl
alike_result one other a b state (boolean x) alike = refl
alike_result one other a b state (number n) alike = refl
alike_result one other a b state (string s) alike = refl
alike_result one other a b state (array ds) alike = refl
alike_result one other a b state (object ms) alike =
    ap₂ (λ level list. object (annotated_members level state (items_of list) ms)) alike.level (alike.listed (elements (own_suppressions ms)))
