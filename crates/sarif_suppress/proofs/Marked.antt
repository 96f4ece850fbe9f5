-- The marks of the entries that matched a result.
use Rattle.std.proofs.Common.{◌≡◌, ℕ, ◌+◌, ◌<◌, Bool, true, false, ◌||◌, List, [], ◌∷◌, ◌++◌, map, length, refl, sym, ap, ◌∙◌, arith, if◌then◌else◌}
use mathlib.Core.Bool.{or-true, or-false}
use Rattle.std.specs.Prelude.{replicate}
use Rattle.std.specs.List.{list_any}
use Rattle.std.proofs.Math.Seq.{set-append_seam}
use Rattle.std.proofs.lemmas.Bool.{lt-ltb}
use Rattle.std.proofs.lemmas.List.{append_assoc, length-append}
use Rattle.std.proofs.lemmas.List.Folds.{list_any-append}
use Rattle.sarif_model.specs.declared.record.Record.{Record}
use Rattle.sarif_entries.specs.declared.entry.Entry.{Entry}
use Rattle.sarif_entries.specs.File.{File}
use Rattle.sarif_entries.specs.Matching.{matches}
use Rattle.sarif_filing.specs.Numbers.{numbers_from}
use Rattle.sarif_suppress.specs.Suppressing.{matching_numbers}
use Rattle.sarif_suppress.specs.Internal.Marks.{marks_of, with_mark, with_marks}

none_set : (es : List Entry) → replicate (length es) false ≡ map (λ (e : Entry). false) es
none_set [] = refl
none_set (e ∷ es) = ap (λ marks. false ∷ marks) (none_set es)

-- no result has marked an entry
pub unset : (file : File) → replicate (length file.entries) false ≡ marks_of file []
unset file = none_set file.entries

-- what is after the front is marked
with_mark-append : (front : List Bool) (mark : Bool) (rest : List Bool) (n : ℕ) → n ≡ length front → with_mark (front ++ mark ∷ rest) n ≡ front ++ true ∷ rest
with_mark-append front mark rest n here =
    let within : length front < length (front ++ mark ∷ rest) = omega (arith, length-append front (mark ∷ rest)) in
    rw (here, lt-ltb _ _ within) (set-append_seam front mark rest true)

-- the entries that match one result more
with_marks-append : (was is : Entry → Bool) (front : List Bool) (n : ℕ) (es : List Entry) → n ≡ length front
    → with_marks (front ++ map was es) (numbers_from is n es) ≡ front ++ map (λ e. was e || is e) es
with_marks-append was is front n [] here = refl
with_marks-append was is front n (e ∷ es) here =
    let marks : List Bool = map was es in
    let more : List Bool = map (λ x. was x || is x) es in
    let numbers : List ℕ = numbers_from is (n + 1) es in
    let longer : (b : Bool) → n + 1 ≡ length (front ++ b ∷ []) = λ b. omega (arith, length-append front (b ∷ [])) in
    let next : (b : Bool) → with_marks (front ++ b ∷ marks) numbers ≡ front ++ b ∷ more =
    λ b. sym (ap (λ ms. with_marks ms numbers) (append_assoc front (b ∷ []) marks))
    ∙ with_marks-append was is (front ++ b ∷ []) (n + 1) es (longer b) ∙ append_assoc front (b ∷ []) more in
    elim (is e) as (λ b. with_marks (front ++ was e ∷ marks) (if b then n ∷ numbers else numbers) ≡ front ++ (was e || b) ∷ more) [
      | true ↦ ap (λ ms. with_marks ms numbers) (with_mark-append front (was e) marks n here) ∙ next true ∙ sym (ap (λ b. front ++ b ∷ more) (or-true (was e)))
      | false ↦ next (was e) ∙ sym (ap (λ b. front ++ b ∷ more) (or-false (was e)))
    ]

one_after : (file : File) (rs : List Record) (r : Record) (es : List Entry)
    → map (λ e. list_any (λ r. matches file.today e r) rs || matches file.today e r) es
    ≡ map (λ e. list_any (λ r. matches file.today e r) (rs ++ r ∷ [])) es
one_after file rs r [] = refl
one_after file rs r (e ∷ es) =
    let here : (list_any (λ r. matches file.today e r) rs || matches file.today e r)
    ≡ list_any (λ r. matches file.today e r) (rs ++ r ∷ []) =
    sym (list_any-append (λ r. matches file.today e r) rs (r ∷ [])
    ∙ ap (λ b. list_any (λ r. matches file.today e r) rs || b) (or-false (matches file.today e r))) in
    rw (here, one_after file rs r es) refl

-- the marks of some results, with those of the entries that match one more
pub one_more : (old new : List Bool) (numbers : List ℕ) (file : File) (rs : List Record) (r : Record) → new ≡ with_marks old numbers
    → old ≡ marks_of file rs → numbers ≡ matching_numbers file r → new ≡ marks_of file (rs ++ r ∷ [])
one_more old new numbers file rs r set was found =
    set
    ∙ rw (was, found) (with_marks-append (λ e. list_any (λ r. matches file.today e r) rs) (λ e. matches file.today e r) [] 0 file.entries refl)
    ∙ one_after file rs r file.entries
