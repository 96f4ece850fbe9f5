-- The results of baselines that match no current result.
use Rattle.std.proofs.Common.{◌≡◌, List, Bool, true, false, [], ◌∷◌, map, length, suc, refl, sym, ap, ◌∙◌, arith}
use Rattle.std.proofs.lemmas.Simd.{map-map}
use Rattle.std.proofs.lemmas.List.Elements.{All-cons, All-drop, All-nil}
use Rattle.std.specs.List.{All}
use Rattle.std.specs.Prelude.{if◌then◌else◌}
use Rattle.sarif_ratings.specs.Ratings.{rating_at, rating_in}
use Rattle.sarif_read.specs.Unmarked.{unmarked}
use Rattle.sarif_runs.specs.Placed.{Placed}
use Rattle.sarif_runs.specs.declared.spots.Spot.{Spot}
use Rattle.serde_json.specs.Data.{Data}
use Rattle.sarif_deciding.specs.Present.{all_present, pair_at}

pub unmarked-map : {X Y : Type 0} (f : X → Y) (marks : List Bool) (xs : List X) → map f (unmarked marks xs) ≡ unmarked marks (map f xs)
unmarked-map f [] xs = refl
unmarked-map f (m ∷ marks) [] = refl
unmarked-map f (true ∷ marks) (x ∷ xs) = unmarked-map f marks xs
unmarked-map f (false ∷ marks) (x ∷ xs) = ap (λ ys. f x ∷ ys) (unmarked-map f marks xs)

pub unmarked_within : {X : Type 0} (P : X → Type 0) (marks : List Bool) (xs : List X) → All P xs → All P (unmarked marks xs)
unmarked_within P [] xs all = All-nil P
unmarked_within P (m ∷ marks) [] all = All-nil P
unmarked_within P (true ∷ marks) (x ∷ xs) all = unmarked_within P marks xs (All-drop P 1 (x ∷ xs) all)
unmarked_within P (false ∷ marks) (x ∷ xs) all =
    All-cons P x (unmarked marks xs) (all 0 x (omega arith)) (unmarked_within P marks xs (All-drop P 1 (x ∷ xs) all))

-- as many of two lists of the same length
pub unmarked_long : {X Y : Type 0} (marks : List Bool) (xs : List X) (ys : List Y) → length xs ≡ length ys
    → length (unmarked marks xs) ≡ length (unmarked marks ys)
unmarked_long [] xs ys same = refl
unmarked_long (m ∷ marks) [] [] same = refl
unmarked_long (m ∷ marks) [] (y ∷ ys) same = absurd (omega (arith, same))
unmarked_long (m ∷ marks) (x ∷ xs) [] same = absurd (omega (arith, same))
unmarked_long (true ∷ marks) (x ∷ xs) (y ∷ ys) same = unmarked_long marks xs ys (omega (arith, same))
unmarked_long (false ∷ marks) (x ∷ xs) (y ∷ ys) same = ap suc (unmarked_long marks xs ys (omega (arith, same)))

-- results are rated by their places as they are with their runs
pub left_rated : (runs : List Placed) (taken : List Bool) (spots : List Spot) → map (pair_at runs) spots ≡ all_present runs
    → map (rating_at runs) (unmarked taken spots) ≡ unmarked taken (map (λ found. rating_in found.0 found.1) (all_present runs))
left_rated runs taken spots pairs =
    unmarked-map (rating_at runs) taken spots
    ∙ ap (unmarked taken) (sym (map-map (λ (found : Data × Data). rating_in found.0 found.1) (pair_at runs) spots)
    ∙ ap (map (λ (found : Data × Data). rating_in found.0 found.1)) pairs)

-- the first of two values, if it is requested
pub if_asked : {X : Type 0} (asked : Bool) (x y : X) → asked ≡ true → x ≡ (if asked then x else y)
if_asked true x y is = refl
if_asked false x y is = cc
