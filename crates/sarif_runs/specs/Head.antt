-- What of a run its results need: rules, overrides and artifacts.
use Rattle.std.specs.Prelude.{Result, Ok}
use Rattle.serde_json.specs.Data.{Data}
use Rattle.sarif_model.specs.declared.fault.Fault.{Fault}
use Rattle.sarif_model.specs.Members.{◌>>=◌}
use Rattle.sarif_runs.specs.declared.head.RunHead.{RunHead}
use Rattle.sarif_runs.specs.Rules.{components_of}
use Rattle.sarif_runs.specs.Place.{artifacts_of}
use Rattle.sarif_runs.specs.Overrides.{invocations_of}

-- the head of a run, or its first error
unfoldable pub head_of : Data → Result RunHead Fault
head_of run = do
  components ← components_of run
  artifacts ← artifacts_of run
  invocations ← invocations_of components run
  Ok (record { components = components; invocations = invocations; artifacts = artifacts })
