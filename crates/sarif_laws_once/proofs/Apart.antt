-- Lists of marks, and lists without their marked elements.
use Rattle.std.proofs.Common.{◌≡◌, ◌+◌, ℕ, zero, suc, Bool, true, false, List, [], ◌∷◌, take, drop, length, refl, arith}
use Rattle.sarif_read.specs.Unmarked.{unmarked}

-- how many of these marks are set
abbrev pub set_in : List Bool → ℕ
set_in [] = 0
set_in (true ∷ marks) = 1 + set_in marks
set_in (false ∷ marks) = set_in marks

-- how many of them aren't set
abbrev pub unset_in : List Bool → ℕ
unset_in [] = 0
unset_in (true ∷ marks) = unset_in marks
unset_in (false ∷ marks) = 1 + unset_in marks

-- ---- the first and the others

pub set_split : (n : ℕ) (marks : List Bool) → set_in marks ≡ set_in (take n marks) + set_in (drop n marks)
set_split zero marks = omega arith
set_split (suc n) [] = omega arith
set_split (suc n) (true ∷ marks) = let rest = set_split n marks in omega (arith, rest)
set_split (suc n) (false ∷ marks) = set_split n marks

pub unset_split : (n : ℕ) (marks : List Bool) → unset_in marks ≡ unset_in (take n marks) + unset_in (drop n marks)
unset_split zero marks = omega arith
unset_split (suc n) [] = omega arith
unset_split (suc n) (true ∷ marks) = unset_split n marks
unset_split (suc n) (false ∷ marks) = let rest = unset_split n marks in omega (arith, rest)

-- set marks of the elements that aren't matched
pub left_split : (n : ℕ) (taken marks : List Bool) → length taken ≡ length marks
    → set_in (unmarked taken marks) ≡ set_in (unmarked (take n taken) (take n marks)) + set_in (unmarked (drop n taken) (drop n marks))
left_split zero taken marks same = omega arith
left_split (suc n) [] [] same = omega arith
left_split (suc n) [] (m ∷ marks) same = absurd (omega (arith, same))
left_split (suc n) (t ∷ taken) [] same = absurd (omega (arith, same))
left_split (suc n) (true ∷ taken) (m ∷ marks) same = left_split n taken marks (omega (arith, same))
left_split (suc n) (false ∷ taken) (true ∷ marks) same = let rest = left_split n taken marks (omega (arith, same)) in omega (arith, rest)
left_split (suc n) (false ∷ taken) (false ∷ marks) same = left_split n taken marks (omega (arith, same))

-- ---- marked elements and the others

pub all_apart : {X : Type 0} (marks : List Bool) (xs : List X) → length marks ≡ length xs → length xs ≡ length (unmarked marks xs) + set_in marks
all_apart [] [] same = refl
all_apart [] (x ∷ xs) same = absurd (omega (arith, same))
all_apart (m ∷ marks) [] same = absurd (omega (arith, same))
all_apart (true ∷ marks) (x ∷ xs) same = let rest = all_apart marks xs (omega (arith, same)) in omega (arith, rest)
all_apart (false ∷ marks) (x ∷ xs) same = let rest = all_apart marks xs (omega (arith, same)) in omega (arith, rest)

-- elements that aren't matched: those without a mark, and the marked ones
pub left_apart : (taken marks : List Bool) → length taken ≡ length marks
    → unset_in taken ≡ unset_in (unmarked marks taken) + set_in (unmarked taken marks)
left_apart [] [] same = refl
left_apart [] (m ∷ marks) same = absurd (omega (arith, same))
left_apart (t ∷ taken) [] same = absurd (omega (arith, same))
left_apart (true ∷ taken) (true ∷ marks) same = left_apart taken marks (omega (arith, same))
left_apart (true ∷ taken) (false ∷ marks) same = left_apart taken marks (omega (arith, same))
left_apart (false ∷ taken) (true ∷ marks) same = let rest = left_apart taken marks (omega (arith, same)) in omega (arith, rest)
left_apart (false ∷ taken) (false ∷ marks) same = let rest = left_apart taken marks (omega (arith, same)) in omega (arith, rest)
