-- What the results of a run are (SARIF 2.1.0, run object, "results property").
use Rattle.std.specs.Prelude.{ℕ, ◌+◌, length, Bool, false, List, [], ◌∷◌, Option, Some, None, codes, bytes_eq, option_map, option_and_then, unwrap_or, slice_index_or}
use Rattle.serde_json.specs.Data.{Data, null, Items}
use Rattle.serde_json.specs.Find.{get, as_str, as_array}
use Rattle.sarif_model.specs.Members.{elements}
use Rattle.std.specs.Prelude.{not, filter}

-- the array of results, if there is one
abbrev pub results_array : Data → Option Items
results_array run = option_and_then as_array (get (codes "results") run)

abbrev pub elements_or_none : Option Items → List Data
elements_or_none None = []
elements_or_none (Some ds) = elements ds

-- the results in order; a run without results has none
abbrev pub results_of : Data → List Data
results_of run = elements_or_none (results_array run)

-- the result with that number
abbrev pub result_at : Data → ℕ → Data
result_at run seq = slice_index_or (results_of run) seq null

abbrev pub is_text : List ℕ → Option (List ℕ) → Bool
is_text text found = unwrap_or (option_map (bytes_eq text) found) false

-- whether the result is marked as absent from its log
abbrev pub is_absent_result : Data → Bool
is_absent_result result =
    is_text (codes "absent") (option_and_then as_str (get (codes "baselineState") result))

-- how many results these runs have
abbrev pub results_total : List Data → ℕ
results_total [] = 0
results_total (run ∷ runs) = length (results_of run) + results_total runs

-- the elements of `runs`; null means no runs
abbrev pub runs_of : Data → List Data
runs_of log = elements_or_none (option_and_then as_array (get (codes "runs") log))

-- ---- baseline runs

-- the results that aren't themselves marked as absent
abbrev pub present : List Data → List Data
present ds = filter (λ d. not (is_absent_result d)) ds
