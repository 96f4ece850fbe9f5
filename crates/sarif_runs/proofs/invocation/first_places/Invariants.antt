use Rattle.std.proofs.Common.{◌≡◌, take}
use Rattle.std.specs.HashMap.{get}
use Rattle.sarif_runs.specs.declared.component.Descriptor.{Descriptor}
use Rattle.sarif_runs.specs.Overrides.{is_same_descriptor, first_for}
use Rattle.sarif_runs.proofs.invocation.first_places.Given as goal

abbrev pub invariant-loop-place : goal.invariant-loop-place
invariant-loop-place l =
    (q : Descriptor) → get is_same_descriptor l.table q ≡ first_for q (take l.place l.overrides)
