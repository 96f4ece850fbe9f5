-- The table of the names of sections, as the contracts of its functions see it.
use Rattle.std.specs.Prelude.{◌≡◌, ℕ, zero, suc, Bool, true, false, ◌||◌, List, [], ◌∷◌, map, Option, Some, None, count_by}
use Rattle.std.specs.List.{list_any}
use Rattle.std.specs.Borrow.{Bor}
use Rattle.std.specs.HashMap.{get, HashMap}
use Rattle.std.specs.Cmp.Lexicographic.{pointwise}
use Rattle.std.specs.Prelude.{◌==◌}
use Rattle.sarif_diff.specs.declared.section.Section.{Section}
use Rattle.sarif_change.specs.Joined.{has_name, is_shared, names_of}

-- whether two names are equal
abbrev pub same_bytes : Bor (List ℕ) → Bor (List ℕ) → Bool
same_bytes a b = pointwise ◌==◌ a.now b.now

-- what the table has for a name of this number of sections: nothing for none, `false` for one, `true` for several
abbrev pub noted : ℕ → Option Bool
noted zero = None
noted (suc zero) = Some false
noted (suc (suc n)) = Some true

-- the table has the names of these sections
abbrev pub IsTableOf : {S : Type 0} → List Section → HashMap (Bor (List ℕ)) Bool S → Type 0
IsTableOf before table =
    (name : Bor (List ℕ)) → get same_bytes table name ≡ noted (count_by (has_name name.now) before)

-- whether several of these sections have a name of each of them
abbrev pub shared_names : List Section → List Section → List Bool
shared_names sections = map (λ s. list_any (is_shared sections) (names_of s))

-- the sections, each changed completely if it was or if its mark is set
abbrev pub with_whole : List Section → List Bool → List Section
with_whole [] whole = []
with_whole (s ∷ ss) [] = []
with_whole (s ∷ ss) (b ∷ bs) = record s { whole = s.whole || b } ∷ with_whole ss bs
