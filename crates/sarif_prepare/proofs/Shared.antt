-- What threads make of references to values is made of these values.
use Rattle.std.proofs.Common.{◌≡◌, List, [], ◌∷◌, map, refl, ap₂, subst}
use Rattle.std.specs.List.{AllZip}
use denote.Ref.{Bor}

each_made : {X Y : Type 0} (v : X → Y) (shown : List (Bor X)) (ys : List Y) → AllZip (λ p y. y ≡ v p.now) shown ys → ys ≡ map v (map (λ p. p.now) shown)
each_made v [] [] made = refl
each_made v [] (y ∷ ys) made = absurd made
each_made v (p ∷ shown) [] made = absurd made
each_made v (p ∷ shown) (y ∷ ys) made = ap₂ (λ a b. a ∷ b) made.0 (each_made v shown ys made.1)

pub made_of_shown : {X Y : Type 0} (v : X → Y) (shown : List (Bor X)) (xs : List X) (ys : List Y) → map (λ p. p.now) shown ≡ xs
    → AllZip (λ p y. y ≡ v p.now) shown ys → ys ≡ map v xs
made_of_shown v shown xs ys is made = subst (λ zs. ys ≡ map v zs) is (each_made v shown ys made)
