-- A merge whose gate checks only a change accepts what a choice of hits accepts: the hits that aren't hidden.
use Rattle.std.specs.Prelude.{Bool, not, ◌&&◌, List, [], ◌∷◌, map, Some, None}
use Rattle.sarif_accept.specs.Choosing.{Marks}
use Rattle.sarif_upkeep.specs.Merge.{Merge}

-- which of the results with these marks are chosen and not hidden
abbrev pub chosen_unless : List Bool → List Bool → List Bool
chosen_unless [] marks = []
chosen_unless (h ∷ hidden) [] = []
chosen_unless (h ∷ hidden) (mark ∷ marks) = (not h && mark) ∷ chosen_unless hidden marks

-- which results are chosen and not hidden, if all hits are chosen or those with these marks
abbrev pub looked_at : List Bool → Marks → List Bool
looked_at hidden None = map not hidden
looked_at hidden (Some marks) = chosen_unless hidden marks

-- the merge whose gate checks all results
abbrev pub of_all : Merge → Merge
of_all m = record m { hidden = None }

-- the merge whose gate checks all results, if of the chosen hits those that were not hidden are chosen
abbrev pub choosing_shown : List Bool → Merge → Merge
choosing_shown hidden m = record m { hidden = None; chosen = Some (looked_at hidden m.chosen) }
