-- A result that isn't suppressed stays if and only if it has suppressions.
use Rattle.std.proofs.Common.{◌≡◌, ℕ, ◌+◌, Bool, true, false, not, ◌&&◌, ◌||◌, List, [], ◌∷◌, ◌++◌, map, refl, ap, ◌∙◌, if◌then◌else◌}
use Rattle.std.specs.Prelude.{filter}
use Rattle.std.specs.List.{list_all, list_any}
use Rattle.sarif_model.specs.declared.kinds.Status.{Status}
use Rattle.sarif_model.specs.declared.record.Record.{Record}
use Rattle.sarif_model.specs.Status.{is_accepted}
use Rattle.sarif_entries.specs.declared.entry.Entry.{Entry}
use Rattle.sarif_entries.specs.File.{File}
use Rattle.sarif_entries.specs.Matching.{is_empty, matches}
use Rattle.sarif_filing.specs.Numbers.{numbers_from}
use Rattle.sarif_suppress.specs.Suppressing.{is_suppressed, statuses_suppress, statuses_of, matching, matching_numbers}
use Rattle.sarif_accept.specs.Adding.{stays}

same_numbers : (test : Entry → Bool) (n : ℕ) (es : List Entry) → is_empty (map (λ e. e.status) (filter test es)) ≡ is_empty (numbers_from test n es)
same_numbers test n [] = refl
same_numbers test n (e ∷ es) =
    elim (test e) as (λ b. is_empty (map (λ e. e.status) (if b then e ∷ filter test es else filter test es))
    ≡ is_empty (if b then n ∷ numbers_from test (n + 1) es else numbers_from test (n + 1) es))
    [ true ↦ refl | false ↦ same_numbers test (n + 1) es ]

both_empty : (xs ys : List Status) → is_empty (xs ++ ys) ≡ (is_empty xs && is_empty ys)
both_empty [] ys = refl
both_empty (x ∷ xs) ys = refl

by_list : (ss : List Status) → statuses_suppress ss ≡ false → not (list_all is_accepted ss) ≡ not (is_empty ss)
by_list [] none = refl
by_list (s ∷ ss) none = ap not none

pub stays_with_some : (file : File) (r : Record) → is_suppressed file r ≡ false → stays file r ≡ not (is_empty r.held && is_empty (matching_numbers file r))
stays_with_some file r none =
    by_list (statuses_of file r) none
    ∙ ap not (both_empty r.held (map (λ e. e.status) (matching file r))
    ∙ ap (λ b. is_empty r.held && b) (same_numbers (λ e. matches file.today e r) 0 file.entries))

-- some number is found if an entry matches
pub found_met : (file : File) (r : Record) → not (is_empty (matching_numbers file r)) ≡ list_any (λ e. matches file.today e r) file.entries
found_met file r = from 0 file.entries
  where
    from : (n : ℕ) (es : List Entry) → not (is_empty (numbers_from (λ e. matches file.today e r) n es)) ≡ list_any (λ e. matches file.today e r) es
    from n [] = refl
    from n (e ∷ es) =
        elim (matches file.today e r) as
        (λ b. not
        (is_empty (if b then n ∷ numbers_from (λ e. matches file.today e r) (n + 1) es else numbers_from (λ e. matches file.today e r) (n + 1) es))
        ≡ (b || list_any (λ e. matches file.today e r) es)) [ true ↦ refl | false ↦ from (n + 1) es ]
