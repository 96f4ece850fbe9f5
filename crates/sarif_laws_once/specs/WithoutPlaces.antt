-- A merged log without the copies that its gate names.
use Rattle.std.specs.Prelude.{◌++◌, List, [], length, unwrap_or}
use Rattle.serde_json.specs.Data.{Data}
use Rattle.sarif_inputs.specs.Inputs.{Inputs, baseline_runs, input_runs}
use Rattle.sarif_log.specs.declared.copies.CopyPlace.{CopyPlace}
use Rattle.sarif_merge.specs.MergedLog.{copies_in_log, inputs_in_log}
use Rattle.sarif_prepare.specs.By.{left_if}
use Rattle.sarif_laws_once.specs.Places.{with_any, without_places}

-- the runs of the merged log with the absent results
abbrev pub absent_in_log : Inputs → List Data
absent_in_log inputs =
    left_if inputs.checks.once inputs.checks.matching (input_runs inputs) (baseline_runs inputs)

-- the copies that the gate names
abbrev pub places_named : Inputs → List CopyPlace
places_named inputs = unwrap_or (copies_in_log inputs) []

-- the runs of the merged log without the copies that its gate names; a run with absent results isn't there if it has no
-- others
abbrev pub log_without_copies : Inputs → List Data
log_without_copies inputs =
    without_places (places_named inputs) 0 (inputs_in_log inputs)
    ++ with_any (without_places (places_named inputs) (length (inputs_in_log inputs))
    (absent_in_log inputs))
