-- A run with only some of its results (SARIF 2.1.0, run object, "results property").
use Rattle.std.specs.Prelude.{Bool, true, false, List, [], ◌∷◌, Option, Some, None, codes, option_map}
use Rattle.serde_json.specs.Data.{Data, null, boolean, number, string, array, object, Items, put}
use Rattle.serde_json.specs.View.{items_of}
use Rattle.sarif_model.specs.Run.{results_array, results_of}

-- the elements of a list that aren't marked
abbrev pub unmarked : {X : Type 0} → List Bool → List X → List X
unmarked [] xs = []
unmarked (mark ∷ marks) [] = []
unmarked (true ∷ marks) (x ∷ xs) = unmarked marks xs
unmarked (false ∷ marks) (x ∷ xs) = x ∷ unmarked marks xs

-- an object with this array of results, if there is one
abbrev pub with_array : Option Items → Data → Data
with_array None run = run
with_array (Some ds) null = null
with_array (Some ds) (boolean b) = boolean b
with_array (Some ds) (number n) = number n
with_array (Some ds) (string s) = string s
with_array (Some ds) (array es) = array es
with_array (Some ds) (object ms) = object (put (codes "results") (array ds) ms)

-- a run whose results are replaced by these; a run without an array of results is unchanged
abbrev pub with_only : List Data → Data → Data
with_only ds run = with_array (option_map (λ _. items_of ds) (results_array run)) run

-- a run without its marked results
abbrev pub without_marked : List Bool → Data → Data
without_marked marks run = with_only (unmarked marks (results_of run)) run
