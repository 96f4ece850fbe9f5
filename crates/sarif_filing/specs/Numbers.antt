-- The numbers of entries, counted from 0.
use Rattle.std.specs.Prelude.{ℕ, ◌+◌, Bool, List, [], ◌∷◌, if◌then◌else◌}
use Rattle.std.specs.Option.{option_map_or}
use Rattle.std.specs.declared.alloc.Global.{Global}
use Rattle.std.specs.declared.vec.Vec.{Vec}
use Rattle.indexmap.specs.IndexMap.{IndexMap, get}

-- the numbers of those that pass the test, where the first has number n
abbrev pub numbers_from : {A : Type 0} → (A → Bool) → ℕ → List A → List ℕ
numbers_from test n [] = []
numbers_from test n (x ∷ xs) =
    if test x then n ∷ numbers_from test (n + 1) xs else numbers_from test (n + 1) xs

-- a list of numbers for each key. Internal: no public contract of the merge refers to this and the next
abbrev pub NumbersBy : Type 0 → Type 0 → Type 0
NumbersBy K S = IndexMap K (Vec ℕ Global) S

-- the numbers that the table has for a key
abbrev pub numbers_at : {K S : Type 0} → (K → K → Bool) → NumbersBy K S → K → List ℕ
numbers_at eq table key = option_map_or (λ v. v.items) (get eq table key) []
