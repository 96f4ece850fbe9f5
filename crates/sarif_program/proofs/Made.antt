-- The contents that were made for some reports are the contents of these reports.
use Rattle.std.proofs.Common.{◌≡◌, ◌∙◌, ◌<◌, ℕ, List, [], ◌∷◌, map, length, get_or, refl, sym, ap, subst}
use Rattle.std.specs.Prelude.{Result, Ok, IfOk}
use Rattle.std.proofs.lemmas.List.{ext_get_or, get_or-map, length-map}
use Rattle.sarif_reports.specs.declared.report.Report.{Report}

-- each was made of the report at its place
pub made_texts : {E : Type 0} (told : Report → List ℕ) (reports : List Report) (made : List (Result (List ℕ) E)) (texts : List (List ℕ))
    → length made ≡ length reports → map (λ text. Ok text) texts ≡ made
    → ((i : ℕ) → i < length reports → (job : Report) × (get_or reports i job ≡ job) × IfOk (get_or made i (Ok [])) (λ text. text ≡ told job))
    → texts ≡ map told reports
made_texts {E} told reports made texts long all each =
    let whole : List ℕ → Result (List ℕ) E = λ text. Ok text in
    let many : length texts ≡ length reports = sym (length-map texts whole) ∙ ap length all ∙ long in
    ext_get_or [] texts (map told reports) (many ∙ sym (length-map reports told)) (λ i within.
    let inside : i < length reports = subst (λ n. i < n) many within in
    let one = each i inside in
    let is : get_or made i (Ok []) ≡ Ok (get_or texts i []) =
    ap (λ them. get_or them i (Ok [])) (sym all) ∙ get_or-map whole texts i [] (Ok []) within in
    let same : get_or texts i [] ≡ told one.0 = subst (λ r. IfOk r (λ text. text ≡ told one.0)) is one.2 in
    same ∙ ap told (sym one.1) ∙ sym (get_or-map told reports i one.0 [] inside))

-- the reports of a list, and then the contents of each
pub map_twice : {A B C : Type 0} (f : A → B) (g : B → C) (xs : List A) → map g (map f xs) ≡ map (λ x. g (f x)) xs
map_twice f g [] = refl
map_twice f g (x ∷ xs) = ap (λ ys. g (f x) ∷ ys) (map_twice f g xs)
