-- The copies that the gate of a merged log names: this project's own format.
use Rattle.std.specs.Prelude.{ℕ, ◌+◌, Bool, true, false, List, [], ◌∷◌, ◌++◌, map, codes, Option, Some, None}
use Rattle.serde_json.specs.Data.{Data, null, boolean, number, string, array, object, no_items, item, put}
use Rattle.serde_json.specs.View.{items_of}
use Rattle.sarif_counts.specs.Gate.{whole_number}
use Rattle.sarif_log.specs.declared.copies.CopyPlace.{CopyPlace}

-- the run of a merged log and the result of that run that a copy is, as two numbers
abbrev pub place_data : CopyPlace → Data
place_data place = array (item (whole_number place.run) (item (whole_number place.result) no_items))

abbrev pub places_data : List CopyPlace → Data
places_data places = array (items_of (map place_data places))

-- a gate that names these copies; a value that is not an object is unchanged
abbrev pub with_copies : List CopyPlace → Data → Data
with_copies places null = null
with_copies places (boolean b) = boolean b
with_copies places (number n) = number n
with_copies places (string s) = string s
with_copies places (array ds) = array ds
with_copies places (object ms) = object (put (codes "copies") (places_data places) ms)

-- a gate that names copies if there is a list of them
abbrev pub naming : Option (List CopyPlace) → Data → Data
naming None gate = gate
naming (Some places) gate = with_copies places gate

-- ---- where copies are

abbrev pub place_if : Bool → ℕ → ℕ → List CopyPlace → List CopyPlace
place_if true run n places = record { run = run; result = n } ∷ places
place_if false run n places = places

-- the copies of run number `run`, by the marks of its results; the first has number n
abbrev pub places_in : ℕ → ℕ → List Bool → List CopyPlace
places_in run n [] = []
places_in run n (mark ∷ marks) = place_if mark run n (places_in run (n + 1) marks)

-- the copies of runs, by the marks of the results of each; the first run has number `run`
abbrev pub places_from : ℕ → List (List Bool) → List CopyPlace
places_from run [] = []
places_from run (marks ∷ more) = places_in run 0 marks ++ places_from (run + 1) more

-- the marks of a run in front of those of others, if it has any
abbrev pub if_any : List Bool → List (List Bool) → List (List Bool)
if_any [] more = more
if_any (mark ∷ marks) more = (mark ∷ marks) ∷ more
