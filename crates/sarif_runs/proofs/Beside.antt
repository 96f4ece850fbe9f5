-- A run's head and its tool's name do not depend on the run's results.
use Rattle.std.proofs.Common.{◌≡◌, [], refl, ap, codes, unwrap_or}
use Rattle.sarif_model.specs.Driver.{tool_name}
use Rattle.serde_json.specs.Data.{Data}
use Rattle.sarif_read.specs.Internal.Bare.{bare}
use Rattle.sarif_read.proofs.Beside.{bare_get, bare_driver_name}
use Rattle.sarif_runs.specs.Rules.{components_of}
use Rattle.sarif_runs.specs.Place.{artifacts_of}
use Rattle.sarif_runs.specs.Overrides.{invocations_of}
use Rattle.sarif_runs.specs.Head.{head_of}

pub bare_tool_name : (run : Data) → tool_name (bare run) ≡ tool_name run
bare_tool_name run = ap (λ name. unwrap_or name []) (bare_driver_name run)

pub bare_head : (run : Data) → head_of (bare run) ≡ head_of run
unfolding head_of components_of artifacts_of invocations_of
bare_head run =
    rw (bare_get (codes "tool") run refl, bare_get (codes "artifacts") run refl, bare_get (codes "invocations") run refl) refl
