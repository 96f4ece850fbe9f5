-- The runs of a log without some of their results.
use Rattle.std.specs.Prelude.{ℕ, ◌==◌, ◌+◌, ◌&&◌, Bool, not, List, [], ◌∷◌, drop, filter, length, map, take}
use Rattle.std.specs.List.{list_any, range_with_len}
use Rattle.serde_json.specs.Data.{Data}
use Rattle.sarif_model.specs.Run.{results_of}
use Rattle.sarif_read.specs.Unmarked.{without_marked}
use Rattle.sarif_entries.specs.Matching.{is_empty}
use Rattle.sarif_log.specs.declared.copies.CopyPlace.{CopyPlace}

-- the runs without their marked results; the marks are those of all results, in the order of runs and results
abbrev pub values_without : List Bool → List Data → List Data
values_without marks [] = []
values_without marks (run ∷ runs) =
    let n = length (results_of run) in
    without_marked (take n marks) run ∷ values_without (drop n marks) runs

-- whether result n of run k of a log is at one of these places
abbrev pub is_at : List CopyPlace → ℕ → ℕ → Bool
is_at places k n = list_any (λ place. (place.run == k) && (place.result == n)) places

-- which results of run k are at one of these places
abbrev pub marks_at : List CopyPlace → ℕ → Data → List Bool
marks_at places k run = map (is_at places k) (range_with_len 0 (length (results_of run)))

-- the runs of a log without the results at these places; the first run has number k
abbrev pub without_places : List CopyPlace → ℕ → List Data → List Data
without_places places k [] = []
without_places places k (run ∷ runs) =
    without_marked (marks_at places k run) run ∷ without_places places (k + 1) runs

-- the runs that have results
abbrev pub with_any : List Data → List Data
with_any runs = filter (λ run. not (is_empty (results_of run))) runs
