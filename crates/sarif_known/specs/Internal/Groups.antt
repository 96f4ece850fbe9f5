-- For the contracts of the ordering of runs.
use Rattle.std.specs.Prelude.{◌≡◌, ℕ, false, List, [], ◌∷◌, ◌++◌, map, bytes_eq, if◌then◌else◌, ⊤}
use Rattle.std.specs.Borrow.{Bor}
use Rattle.std.specs.List.{list_any}
use Rattle.std.specs.declared.alloc.Global.{Global}
use Rattle.std.specs.declared.vec.Vec.{Vec}
use Rattle.sarif_known.specs.declared.chosen.KnownRun.{KnownRun}
use Rattle.sarif_known.specs.Chosen.{Chosen, all_chosen}

-- the runs of each tool
abbrev pub groups_of : List (Vec KnownRun Global) → List (List Chosen)
groups_of groups = map (λ g. all_chosen g.items) groups

abbrev pub texts_of : List (Bor (List ℕ)) → List (List ℕ)
texts_of keys = map (λ k. k.now) keys

-- the group of the first of these tools that is the run's, with the run at its end
abbrev pub spread : List (List ℕ) → Chosen → List (List Chosen) → List (List Chosen)
spread [] run groups = groups
spread (t ∷ tools) run [] = []
spread (t ∷ tools) run (g ∷ groups) =
    if bytes_eq run.tool t then (g ++ run ∷ []) ∷ groups else g ∷ spread tools run groups

-- each text is none of those before it
abbrev pub AreApart : List (List ℕ) → List (List ℕ) → Type 0
AreApart before [] = ⊤
AreApart before (x ∷ xs) = (list_any (bytes_eq x) before ≡ false) × AreApart (before ++ x ∷ []) xs

-- lists, each followed by one of these
abbrev pub side_by_side : List (List Chosen) → List (List Chosen) → List (List Chosen)
side_by_side [] more = []
side_by_side (g ∷ groups) [] = g ∷ groups
side_by_side (g ∷ groups) (h ∷ more) = (g ++ h) ∷ side_by_side groups more
