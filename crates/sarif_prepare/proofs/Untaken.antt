-- What is not taken is what is not marked.
use Rattle.std.proofs.Common.{◌≡◌, Bool, true, false, List, [], ◌∷◌, refl, ap}
use Rattle.sarif_read.specs.Unmarked.{unmarked}
use Rattle.sarif_prepare.specs.Internal.Leftover.{not_taken}

pub untaken_is : {X : Type 0} (taken : List Bool) (xs : List X) → not_taken taken xs ≡ unmarked taken xs
untaken_is [] xs = refl
untaken_is (t ∷ taken) [] = refl
untaken_is (true ∷ taken) (x ∷ xs) = untaken_is taken xs
untaken_is (false ∷ taken) (x ∷ xs) = ap (λ ys. x ∷ ys) (untaken_is taken xs)
