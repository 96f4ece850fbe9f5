-- The entries of a suppression file that drafts name.
use Rattle.std.specs.Prelude.{Bool, List, [], ◌∷◌}
use Rattle.sarif_suppress.specs.Internal.Marks.{with_marks}
use Rattle.sarif_results.specs.declared.draft.Draft.{Draft}

-- marks with those of the entries that these results' drafts name
abbrev pub marked : List Bool → List Draft → List Bool
marked marks [] = marks
marked marks (draft ∷ drafts) = marked (with_marks marks draft.applied.entries) drafts
