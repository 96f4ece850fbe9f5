-- Lists without their marked elements.
use Rattle.std.proofs.Common.{◌≡◌, ◌<◌, ◌+◌, ℕ, zero, suc, Bool, true, false, List, [], ◌∷◌, ◌++◌, map, length, get_or, take, drop, refl, sym, ap, ◌∙◌, arith}
use Rattle.std.proofs.lemmas.List.{drop_all, drop_more}
use Rattle.std.specs.Prelude.{slice_index_or}
use Rattle.std.specs.List.{AllByRecursion, range_with_len}
use Rattle.sarif_read.specs.Unmarked.{unmarked}
use Rattle.sarif_once.specs.Once.{marked, woven}

pub none_left : {X : Type 0} (marks : List Bool) → unmarked {X = X} marks [] ≡ []
none_left [] = refl
none_left (mark ∷ marks) = refl

-- a list after another
pub seam : {X : Type 0} (marks : List Bool) (xs ys : List X)
    → unmarked (take (length xs) marks) xs ++ unmarked (drop (length xs) marks) ys ≡ unmarked marks (xs ++ ys)
seam marks [] ys = refl
seam [] (x ∷ xs) ys = refl
seam (true ∷ marks) (x ∷ xs) ys = seam marks xs ys
seam (false ∷ marks) (x ∷ xs) ys = ap (λ zs. x ∷ zs) (seam marks xs ys)

pub all_left : {X : Type 0} (P : X → Type 0) (marks : List Bool) (xs : List X) → AllByRecursion P xs → AllByRecursion P (unmarked marks xs)
all_left P [] xs all = tt
all_left P (mark ∷ marks) [] all = tt
all_left P (true ∷ marks) (x ∷ xs) all = all_left P marks xs all.1
all_left P (false ∷ marks) (x ∷ xs) all = (all.0, all_left P marks xs all.1)

-- what is made of the elements of a list by their positions
from : {X Y : Type 0} (f : X → Y) (none : X) (xs : List X) (a n : ℕ) → a + n ≡ length xs
    → map (λ i. f (slice_index_or xs i none)) (range_with_len a n) ≡ map f (drop a xs)
from f none xs a zero same = ap (map f) (sym (drop_all a xs (omega (arith, same))))
from f none xs a (suc n) same =
    ap (λ ys. f (slice_index_or xs a none) ∷ ys) (from f none xs (a + 1) n (omega (arith, same)))
    ∙ sym (ap (map f) (drop_more xs a none (omega (arith, same))))

pub by_position : {X Y : Type 0} (f : X → Y) (none : X) (xs : List X) → map (λ i. f (slice_index_or xs i none)) (range_with_len 0 (length xs)) ≡ map f xs
by_position f none xs = from f none xs 0 (length xs) (omega arith)

-- ---- one element more

of_one : {X : Type 0} (b : Bool) (marks : List Bool) (x : X) (xs : List X) → unmarked (b ∷ []) (x ∷ []) ++ unmarked marks xs ≡ unmarked (b ∷ marks) (x ∷ xs)
of_one true marks x xs = refl
of_one false marks x xs = refl

of_one_marked : {X : Type 0} (b : Bool) (marks : List Bool) (x : X) (xs : List X) → marked (b ∷ []) (x ∷ []) ++ marked marks xs ≡ marked (b ∷ marks) (x ∷ xs)
of_one_marked true marks x xs = refl
of_one_marked false marks x xs = refl

pub unmarked_step : {X : Type 0} (marks : List Bool) (n : ℕ) (d : Bool) (x : X) (xs : List X) → n < length marks
    → unmarked (get_or marks n d ∷ []) (x ∷ []) ++ unmarked (drop (n + 1) marks) xs ≡ unmarked (drop n marks) (x ∷ xs)
unmarked_step marks n d x xs below =
    of_one (get_or marks n d) (drop (n + 1) marks) x xs ∙ ap (λ ms. unmarked ms (x ∷ xs)) (sym (drop_more marks n d below))

pub marked_step : {X : Type 0} (marks : List Bool) (n : ℕ) (d : Bool) (x : X) (xs : List X) → n < length marks
    → marked (get_or marks n d ∷ []) (x ∷ []) ++ marked (drop (n + 1) marks) xs ≡ marked (drop n marks) (x ∷ xs)
marked_step marks n d x xs below =
    of_one_marked (get_or marks n d) (drop (n + 1) marks) x xs ∙ ap (λ ms. marked ms (x ∷ xs)) (sym (drop_more marks n d below))

-- ---- in one list again

pub woven_back : {X : Type 0} (marks : List Bool) (xs : List X) → length marks ≡ length xs → woven marks (unmarked marks xs) (marked marks xs) ≡ xs
woven_back [] [] same = refl
woven_back [] (x ∷ xs) same = absurd (omega (arith, same))
woven_back (mark ∷ marks) [] same = absurd (omega (arith, same))
woven_back (true ∷ marks) (x ∷ xs) same = ap (λ ys. x ∷ ys) (woven_back marks xs (omega (arith, same)))
woven_back (false ∷ marks) (x ∷ xs) same = ap (λ ys. x ∷ ys) (woven_back marks xs (omega (arith, same)))
