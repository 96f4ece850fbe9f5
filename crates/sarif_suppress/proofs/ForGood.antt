-- What the entries that last suppress, by the numbers of all entries that match.
use Rattle.std.proofs.Common.{◌≡◌, ℕ, ◌+◌, Bool, true, false, not, ◌&&◌, ◌||◌, List, [], ◌∷◌, ◌++◌, map, filter, refl, ap, ◌∙◌, if◌then◌else◌}
use Rattle.std.specs.List.{list_all, list_any}
use Rattle.std.proofs.lemmas.List.Folds.{list_all-append}
use Rattle.sarif_model.specs.declared.kinds.Status.{Status}
use Rattle.sarif_model.specs.Status.{is_accepted}
use Rattle.sarif_entries.specs.declared.entry.Entry.{Entry}
use Rattle.sarif_entries.specs.Matching.{is_empty}
use Rattle.sarif_filing.specs.Numbers.{numbers_from}
use Rattle.sarif_suppress.specs.Internal.Numbers.{passes_at}
use Rattle.sarif_suppress.specs.Suppressing.{statuses_suppress}
use Rattle.sarif_suppress.proofs.Numbered.{IsPart, whole_is_part, all_numbers, is_empty-append}

any_numbers : (test picked : Entry → Bool) (whole : List Entry) (n : ℕ) (es : List Entry) → IsPart whole n es
    → list_any (passes_at test whole) (numbers_from picked n es) ≡ list_any test (filter picked es)
any_numbers test picked whole n [] part = refl
any_numbers test picked whole n (e ∷ es) part =
    let rest : list_any (passes_at test whole) (numbers_from picked (n + 1) es) ≡ list_any test (filter picked es) =
    any_numbers test picked whole (n + 1) es part.1 in
    elim (picked e) as
    (λ b. list_any (passes_at test whole) (if b then n ∷ numbers_from picked (n + 1) es else numbers_from picked (n + 1) es)
    ≡ list_any test (if b then e ∷ filter picked es else filter picked es)) [
      | true ↦ rw (part.0, rest) refl
      | false ↦ rest
    ]

module _ (picked lasts : Entry → Bool) where
  -- the statuses of the entries that are picked and last
  abbrev theirs : List Entry → List Status
  theirs es = map (λ e. e.status) (filter picked (filter lasts es))

  some_last : (es : List Entry) → list_any lasts (filter picked es) ≡ not (is_empty (theirs es))
  some_last [] = refl
  some_last (e ∷ es) = by_both (some_last es) (picked e) (lasts e) refl refl
    where
      by_both : list_any lasts (filter picked es) ≡ not (is_empty (theirs es)) → (p l : Bool) → picked e ≡ p → lasts e ≡ l
          → list_any lasts (filter picked (e ∷ es)) ≡ not (is_empty (theirs (e ∷ es)))
      by_both rest true true is also = rw (is, also, is) refl
      by_both rest true false is also = rw (is, also) rest
      by_both rest false true is also = rw (is, also, is) rest
      by_both rest false false is also = rw (is, also) rest

  all_last : (es : List Entry) → list_all (λ e. not (lasts e) || is_accepted e.status) (filter picked es) ≡ list_all is_accepted (theirs es)
  all_last [] = refl
  all_last (e ∷ es) = by_both (all_last es) (picked e) (lasts e) refl refl
    where
      by_both : list_all (λ e. not (lasts e) || is_accepted e.status) (filter picked es) ≡ list_all is_accepted (theirs es) → (p l : Bool)
          → picked e ≡ p → lasts e ≡ l
          → list_all (λ e. not (lasts e) || is_accepted e.status) (filter picked (e ∷ es)) ≡ list_all is_accepted (theirs (e ∷ es))
      by_both rest true true is also = rw (is, also, is) (ap (λ b. is_accepted e.status && b) rest)
      by_both rest true false is also = rw (is, also) rest
      by_both rest false true is also = rw (is, also, is) rest
      by_both rest false false is also = rw (is, also) rest

  either : (a b : Bool) → (not a || not b) ≡ not (a && b)
  either true b = refl
  either false b = refl

  -- the statuses of the result and of those entries, as one list
  pub lasting_verdict : (held : List Status) (entries : List Entry)
      → ((not (is_empty held) || list_any (passes_at lasts entries) (numbers_from picked 0 entries))
      && (list_all is_accepted held
      && list_all (passes_at (λ e. not (lasts e) || is_accepted e.status) entries) (numbers_from picked 0 entries)))
      ≡ statuses_suppress (held ++ map (λ e. e.status) (filter picked (filter lasts entries)))
  lasting_verdict held entries =
      let some : list_any (passes_at lasts entries) (numbers_from picked 0 entries) ≡ not (is_empty (theirs entries)) =
      any_numbers lasts picked entries 0 entries (whole_is_part entries) ∙ some_last entries in
      let all : list_all (passes_at (λ e. not (lasts e) || is_accepted e.status) entries) (numbers_from picked 0 entries)
      ≡ list_all is_accepted (theirs entries) =
      all_numbers (λ e. not (lasts e) || is_accepted e.status) picked entries 0 entries (whole_is_part entries) ∙ all_last entries in
      rw (some, all, either, is_empty-append, list_all-append) refl
