-- The parts of a run that are read don't depend on the external property files that it names.
use Rattle.std.proofs.Common.{◌≡◌, ℕ, refl, codes}
use Rattle.serde_json.specs.Data.{Data}
use Rattle.sarif_model.specs.Run.{results_of}
use Rattle.sarif_read.specs.Failed.{failed}
use Rattle.sarif_read.proofs.Beside.{member_beside}
use Rattle.sarif_runs.specs.Internal.NamedFiles.{without_files}
use Rattle.sarif_runs.specs.Rules.{components_of}
use Rattle.sarif_runs.specs.Place.{artifacts_of}
use Rattle.sarif_runs.specs.Overrides.{invocations_of}
use Rattle.sarif_runs.specs.Head.{head_of}
use Rattle.sarif_runs.specs.Record.{record_of}
use Rattle.sarif_runs.specs.declared.run_options.RecordOptions.{RecordOptions}

pub same_results : (run : Data) → results_of (without_files run) ≡ results_of run
same_results run = rw (member_beside (codes "externalPropertyFileReferences") (codes "results") run refl) refl

pub same_failing : (run : Data) → failed (without_files run) ≡ failed run
same_failing run =
    rw (
      member_beside (codes "externalPropertyFileReferences") (codes "invocations") run refl,
      member_beside (codes "externalPropertyFileReferences") (codes "results") run refl,
    ) refl

pub same_head : (run : Data) → head_of (without_files run) ≡ head_of run
unfolding head_of components_of artifacts_of invocations_of
same_head run =
    rw (
      member_beside (codes "externalPropertyFileReferences") (codes "tool") run refl,
      member_beside (codes "externalPropertyFileReferences") (codes "artifacts") run refl,
      member_beside (codes "externalPropertyFileReferences") (codes "invocations") run refl,
    ) refl

pub same_record : (options : RecordOptions) (run : Data) (seq : ℕ) → record_of options (without_files run) seq ≡ record_of options run seq
unfolding record_of
same_record options run seq =
    rw (
      same_head run,
      member_beside (codes "externalPropertyFileReferences") (codes "tool") run refl,
      member_beside (codes "externalPropertyFileReferences") (codes "results") run refl,
    ) refl
