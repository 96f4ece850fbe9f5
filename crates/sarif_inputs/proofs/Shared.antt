-- What threads that share some work give of all of it.
use Rattle.std.proofs.Common.{◌≡◌, List, [], ◌∷◌, map, refl, ap₂}
use Rattle.std.specs.List.{AllZip}

pub mapped_alike : {X Y Z : Type 0} (v : X → Z) (w : Y → Z) (xs : List X) (ys : List Y) → AllZip (λ x y. w y ≡ v x) xs ys → map w ys ≡ map v xs
mapped_alike v w [] [] same = refl
mapped_alike v w [] (y ∷ ys) same = absurd same
mapped_alike v w (x ∷ xs) [] same = absurd same
mapped_alike v w (x ∷ xs) (y ∷ ys) same = ap₂ (λ a b. a ∷ b) same.0 (mapped_alike v w xs ys same.1)
