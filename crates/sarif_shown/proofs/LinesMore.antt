-- The lines of results, one result after another.
use Rattle.std.proofs.Common.{◌≡◌, ◌<◌, ◌+◌, ◌++◌, ℕ, List, ◌∷◌, length, drop, get_or, map, flat_map, sym, ap, ◌∙◌, append_assoc}
use Rattle.std.specs.Borrow.{Bor}
use Rattle.std.proofs.lemmas.List.{drop_more}
use Rattle.sarif_findings.specs.declared.finding.Finding.{Finding}

-- the results that are left
pub pointed_left : (fs : List (Bor Finding)) (i : ℕ) (f : Bor Finding) → i < length fs → f ≡ get_or fs i f
    → map (λ x. x.now) (drop i fs) ≡ f.now ∷ map (λ x. x.now) (drop (i + 1) fs)
pointed_left fs i f within is =
    ap (map (λ x. x.now)) (drop_more fs i f within) ∙ ap (λ x. x.now ∷ map (λ x. x.now) (drop (i + 1) fs)) (sym is)

-- the text of one more result
pub texts_step : (h : Finding → List ℕ) (fs : List (Bor Finding)) (i : ℕ) (f : Bor Finding) (old new whole : List ℕ) → i < length fs → f ≡ get_or fs i f
    → new ≡ old ++ h f.now → old ++ flat_map h (map (λ x. x.now) (drop i fs)) ≡ whole → new ++ flat_map h (map (λ x. x.now) (drop (i + 1) fs)) ≡ whole
texts_step h fs i f old new whole within is written held =
    ap (λ t. t ++ flat_map h (map (λ x. x.now) (drop (i + 1) fs))) written
    ∙ append_assoc old (h f.now) (flat_map h (map (λ x. x.now) (drop (i + 1) fs)))
    ∙ ap (λ t. old ++ t) (sym (ap (flat_map h) (pointed_left fs i f within is))) ∙ held
