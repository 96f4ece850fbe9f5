-- The results that are requested, as the contracts of the crate's functions see them.
use Rattle.std.specs.Prelude.{◌≡◌, Bool, false, List, Option, Some, None}
use Rattle.std.specs.List.{All}
use Rattle.sarif_model.specs.Run.{result_at}
use Rattle.sarif_runs.specs.Internal.Opened.{placed_of}
use Rattle.sarif_runs.specs.Placed.{Placed}
use Rattle.sarif_scope.specs.Inside.{is_outside_of}
use Rattle.sarif_scope.specs.declared.gated.GatedChange.{GatedChange}
use Rattle.sarif_outside.specs.declared.asked.AskedResult.{AskedResult}
use Rattle.sarif_outside.specs.declared.asked.LookedRun.{LookedRun}
use Rattle.sarif_outside.specs.declared.scoped.ScopedChange.{ScopedChange}
use Rattle.sarif_outside.specs.Marks.{in_scope}

-- the change, as the definitions see it
abbrev pub scoped : ScopedChange → GatedChange
scoped change = in_scope change.scope change.change.now

-- the run, as the definitions see it
abbrev pub placed_looked : LookedRun → Placed
placed_looked run = placed_of run.opened.now

-- the change and the run, as the definitions see it
abbrev pub looked_as : LookedRun → GatedChange × Placed
looked_as run = (scoped run.change, placed_looked run)

-- the artifacts of this run are looked up in this change
abbrev pub IsLookedFor : GatedChange → LookedRun → Type 0
IsLookedFor change run = scoped run.change ≡ change

abbrev pub AreLookedFor : GatedChange → List LookedRun → Type 0
AreLookedFor change runs = All (IsLookedFor change) runs

-- the mark of a result, if it is requested
abbrev pub mark_by : Option AskedResult → Bool
mark_by None = false
mark_by (Some asked) =
    is_outside_of (scoped asked.run.now.change) (placed_looked asked.run.now).run
    (result_at (placed_looked asked.run.now).run asked.seq)
