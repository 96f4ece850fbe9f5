-- Runs without the copies among their results.
use Rattle.std.specs.Prelude.{Bool, true, false, List, [], ◌∷◌, drop, length, slice_index_or}
use Rattle.std.specs.List.{flat_map}
use Rattle.sarif_copies.specs.Copies.{copies_of}
use Rattle.sarif_runs.specs.declared.item.Item.{Item}
use Rattle.sarif_runs.specs.declared.item.Item.TheVariants.{Sound, Bad, Skipped}
use Rattle.sarif_runs.specs.Judging.{items_of, records_in, records_of}
use Rattle.sarif_runs.specs.Placed.{Placed}
use Rattle.sarif_runs.specs.Unmarked.{runs_without}

-- the elements of a list that are marked
abbrev pub marked : {X : Type 0} → List Bool → List X → List X
marked [] xs = []
marked (mark ∷ marks) [] = []
marked (true ∷ marks) (x ∷ xs) = x ∷ marked marks xs
marked (false ∷ marks) (x ∷ xs) = marked marks xs

-- the elements that aren't marked and those that are, in one list again
abbrev pub woven : {X : Type 0} → List Bool → List X → List X → List X
woven [] xs ys = []
woven (true ∷ marks) xs [] = woven marks xs []
woven (true ∷ marks) xs (y ∷ ys) = y ∷ woven marks xs ys
woven (false ∷ marks) [] ys = woven marks [] ys
woven (false ∷ marks) (x ∷ xs) ys = x ∷ woven marks xs ys

-- the mark of a result, where these are the marks of the records from its own on; a result without a record has none
abbrev pub mark_of : Item → List Bool → Bool
mark_of (Sound r) marks = slice_index_or marks 0 false
mark_of (Bad fault) marks = false
mark_of Skipped marks = false

-- the mark of each result, by the marks of the records
abbrev pub marks_in : List Item → List Bool → List Bool
marks_in [] marks = []
marks_in (item ∷ items) marks =
    mark_of item marks ∷ marks_in items (drop (length (records_in (item ∷ []))) marks)

-- whether each result of these runs is a copy
abbrev pub copy_marks : List Placed → List Bool
copy_marks runs = marks_in (flat_map items_of runs) (copies_of (records_of runs))

-- the runs without the results that are copies
abbrev pub without_copies : List Placed → List Placed
without_copies runs = runs_without (copy_marks runs) runs
