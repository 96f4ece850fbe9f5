-- Lists of findings and of copies, without the results that are matched.
use Rattle.std.proofs.Common.{◌≡◌, suc, Bool, true, false, List, [], ◌∷◌, length, refl, ap, arith}
use Rattle.sarif_once.specs.Once.{marked, woven}
use Rattle.sarif_read.specs.Unmarked.{unmarked}

pub marked_long : {X : Type 0} (marks : List Bool) (xs : List X) (bs : List Bool) → length xs ≡ length marks → length bs ≡ length marks
    → length (marked marks bs) ≡ length (marked marks xs)
marked_long [] xs bs same_x same_b = refl
marked_long (m ∷ marks) [] bs same_x same_b = absurd (omega (arith, same_x))
marked_long (m ∷ marks) (x ∷ xs) [] same_x same_b = absurd (omega (arith, same_b))
marked_long (true ∷ marks) (x ∷ xs) (b ∷ bs) same_x same_b = ap suc (marked_long marks xs bs (omega (arith, same_x)) (omega (arith, same_b)))
marked_long (false ∷ marks) (x ∷ xs) (b ∷ bs) same_x same_b = marked_long marks xs bs (omega (arith, same_x)) (omega (arith, same_b))

-- what is left of findings and of copies makes what is left of all
pub woven_left : {X : Type 0} (ts ms : List Bool) (xs : List X) → length ts ≡ length ms → length xs ≡ length ms
    → woven (unmarked ts ms) (unmarked (unmarked ms ts) (unmarked ms xs)) (unmarked (marked ms ts) (marked ms xs)) ≡ unmarked ts xs
woven_left [] [] [] same_t same_x = refl
woven_left [] [] (x ∷ xs) same_t same_x = absurd (omega (arith, same_x))
woven_left [] (m ∷ ms) xs same_t same_x = absurd (omega (arith, same_t))
woven_left (t ∷ ts) [] xs same_t same_x = absurd (omega (arith, same_t))
woven_left (t ∷ ts) (m ∷ ms) [] same_t same_x = absurd (omega (arith, same_x))
woven_left (true ∷ ts) (true ∷ ms) (x ∷ xs) same_t same_x = woven_left ts ms xs (omega (arith, same_t)) (omega (arith, same_x))
woven_left (true ∷ ts) (false ∷ ms) (x ∷ xs) same_t same_x = woven_left ts ms xs (omega (arith, same_t)) (omega (arith, same_x))
woven_left (false ∷ ts) (true ∷ ms) (x ∷ xs) same_t same_x =
    ap (λ ys. x ∷ ys) (woven_left ts ms xs (omega (arith, same_t)) (omega (arith, same_x)))
woven_left (false ∷ ts) (false ∷ ms) (x ∷ xs) same_t same_x =
    ap (λ ys. x ∷ ys) (woven_left ts ms xs (omega (arith, same_t)) (omega (arith, same_x)))

-- the findings among what is left are what is left of the findings
pub found_left : {X : Type 0} (ts ms : List Bool) (xs : List X) → length ts ≡ length ms → length xs ≡ length ms
    → unmarked (unmarked ts ms) (unmarked ts xs) ≡ unmarked (unmarked ms ts) (unmarked ms xs)
found_left [] [] [] same_t same_x = refl
found_left [] [] (x ∷ xs) same_t same_x = absurd (omega (arith, same_x))
found_left [] (m ∷ ms) xs same_t same_x = absurd (omega (arith, same_t))
found_left (t ∷ ts) [] xs same_t same_x = absurd (omega (arith, same_t))
found_left (t ∷ ts) (m ∷ ms) [] same_t same_x = absurd (omega (arith, same_x))
found_left (true ∷ ts) (true ∷ ms) (x ∷ xs) same_t same_x = found_left ts ms xs (omega (arith, same_t)) (omega (arith, same_x))
found_left (true ∷ ts) (false ∷ ms) (x ∷ xs) same_t same_x = found_left ts ms xs (omega (arith, same_t)) (omega (arith, same_x))
found_left (false ∷ ts) (true ∷ ms) (x ∷ xs) same_t same_x = found_left ts ms xs (omega (arith, same_t)) (omega (arith, same_x))
found_left (false ∷ ts) (false ∷ ms) (x ∷ xs) same_t same_x =
    ap (λ ys. x ∷ ys) (found_left ts ms xs (omega (arith, same_t)) (omega (arith, same_x)))
