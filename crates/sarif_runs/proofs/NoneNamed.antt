-- Without names nothing is left out.
use Rattle.std.proofs.Common.{◌≡◌, ℕ, ◌==◌, true, List, [], ◌∷◌, length, refl, sym, ap, ◌∙◌, arith}
use Rattle.std.proofs.lemmas.Bool.{ne_eqb, true≢false}
use Rattle.sarif_runs.specs.Ignoring.{without_names}

all_kept : (members : List (List ℕ × List ℕ)) → members ≡ without_names [] members
all_kept [] = refl
all_kept (member ∷ members) = ap (λ l. member ∷ l) (all_kept members)

pub none_named : (names : List (List ℕ)) (members : List (List ℕ × List ℕ)) → (length names == 0) ≡ true → members ≡ without_names names members
none_named [] members none = all_kept members
none_named (name ∷ names) members none =
    absurd (true≢false (sym none ∙ ne_eqb (length (name ∷ names)) 0 (λ same. omega (arith, same))))
