-- A run's artifacts don't depend on its results.
use Rattle.std.proofs.Common.{◌≡◌, codes, map, refl, ap}
use Rattle.std.specs.Prelude.{option_and_then}
use Rattle.serde_json.specs.Data.{Data}
use Rattle.serde_json.specs.Find.{as_array}
use Rattle.sarif_model.specs.Run.{elements_or_none}
use Rattle.sarif_read.specs.Internal.Bare.{bare}
use Rattle.sarif_read.proofs.Beside.{bare_member}
use Rattle.sarif_scope.specs.Inside.{artifact_place, artifacts_in}

pub bare_artifacts : (run : Data) → artifacts_in (bare run) ≡ artifacts_in run
bare_artifacts run =
    ap (λ found. map artifact_place (elements_or_none (option_and_then as_array found))) (bare_member (codes "artifacts") run refl)
