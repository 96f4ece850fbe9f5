-- Whether the analysis of a run failed (SARIF 2.1.0, invocation object, "executionSuccessful property"; run object,
-- "results property").
use Rattle.std.specs.Prelude.{Bool, false, not, ◌||◌, List, codes, is_some, option_map, option_and_then, unwrap_or}
use Rattle.std.specs.List.{list_any}
use Rattle.serde_json.specs.Data.{Data}
use Rattle.serde_json.specs.Find.{get, as_array, as_bool}
use Rattle.sarif_model.specs.Run.{elements_or_none, results_array}

-- an invocation whose `executionSuccessful` is false
abbrev pub is_unsuccessful : Data → Bool
is_unsuccessful invocation =
    unwrap_or
    (option_map not (option_and_then as_bool (get (codes "executionSuccessful") invocation))) false

-- the invocations of a run, in order
abbrev pub invocations_in : Data → List Data
invocations_in run = elements_or_none (option_and_then as_array (get (codes "invocations") run))

-- a run with an invocation that was not successful, or without results: no results were computed
abbrev pub failed : Data → Bool
failed run = list_any is_unsuccessful (invocations_in run) || not (is_some (results_array run))
