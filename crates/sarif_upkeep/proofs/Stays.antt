-- Which hits stay.
use Rattle.std.proofs.Common.{◌≡◌, ◌==◌, ◌&&◌, Bool, true, false, not, List, [], ◌∷◌, length, refl, sym, ap, ◌∙◌}
use Rattle.std.proofs.Math.Dec.{eqb-suc-zero}
use Rattle.std.specs.List.{list_all}
use Rattle.sarif_model.specs.declared.kinds.Status.{Status}
use Rattle.sarif_model.specs.declared.record.Record.{Record}
use Rattle.sarif_model.specs.Status.{is_accepted}
use Rattle.sarif_suppress.specs.declared.suppressions.Applied.{Applied}
use Rattle.sarif_entries.specs.File.{File}
use Rattle.sarif_entries.specs.Matching.{is_empty}
use Rattle.sarif_suppress.specs.Suppressing.{matching_numbers, statuses_suppress}
use Rattle.sarif_results.specs.Drafts.{applied_of}
use Rattle.sarif_accept.specs.Adding.{stays}
use Rattle.sarif_accept.proofs.Staying.{stays_with_some}

pub is_empty_long : {X : Type 0} (xs : List X) → is_empty xs ≡ (length xs == 0)
is_empty_long [] = refl
is_empty_long (x ∷ xs) = sym (eqb-suc-zero (length xs))

by_first : (e m : Bool) → e ≡ false → not e ≡ not (e && m)
by_first true m is = cc
by_first false m is = refl

by_second : (e m : Bool) → e ≡ true → not m ≡ not (e && m)
by_second true m is = refl
by_second false m is = cc

module _ (file : File) (r : Record) (applied : Applied) (same : applied ≡ applied_of file r) (active : applied.suppressed ≡ false) where
  stays_is : stays file r ≡ not (is_empty r.held && is_empty (matching_numbers file r))
  stays_is = stays_with_some file r (sym (ap (λ a. a.suppressed) same) ∙ active)

  -- by its own suppressions
  pub stays_by_own : (e : Bool) → e ≡ (length r.held == 0) → e ≡ false → not e ≡ stays file r
  stays_by_own e is some =
      by_first e (is_empty (matching_numbers file r)) some
      ∙ sym (stays_is ∙ ap (λ b. not (b && is_empty (matching_numbers file r))) (is_empty_long r.held ∙ sym is))

  -- by the entries that match
  pub stays_by_entries : (e m : Bool) → e ≡ (length r.held == 0) → m ≡ (length applied.entries == 0) → e ≡ true → not m ≡ stays file r
  stays_by_entries e m is entries none =
      let numbers : is_empty (matching_numbers file r) ≡ m =
      is_empty_long (matching_numbers file r) ∙ ap (λ a. length a.entries == 0) (sym same) ∙ sym entries in
      by_second e m none
      ∙ sym (stays_is ∙ ap (λ b. not (b && is_empty (matching_numbers file r))) (is_empty_long r.held ∙ sym is) ∙ ap (λ b. not (e && b)) numbers)

pub suppress_if : (ss : List Status) (e : Bool) → e ≡ (length ss == 0) → e ≡ false → list_all is_accepted ss ≡ statuses_suppress ss
suppress_if ss e is some = by_list ss (is_empty_long ss ∙ sym is ∙ some)
  where
    by_list : (ss : List Status) → is_empty ss ≡ false → list_all is_accepted ss ≡ statuses_suppress ss
    by_list [] empty = cc
    by_list (s ∷ ss) empty = refl

pub suppress_not : (ss : List Status) (e : Bool) → e ≡ (length ss == 0) → e ≡ true → not e ≡ statuses_suppress ss
suppress_not ss e is none = ap not none ∙ by_list ss (is_empty_long ss ∙ sym is ∙ none)
  where
    by_list : (ss : List Status) → is_empty ss ≡ true → false ≡ statuses_suppress ss
    by_list [] empty = refl
    by_list (s ∷ ss) empty = cc
