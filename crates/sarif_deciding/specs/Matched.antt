-- What is known about the results of a merge once they are matched.
use Rattle.std.specs.Prelude.{Bool, List, Option}
use Rattle.sarif_entries.specs.File.{File}
use Rattle.sarif_model.specs.declared.kinds.State.{State}
use Rattle.sarif_model.specs.declared.record.Record.{Record}
use Rattle.sarif_results.specs.declared.draft.Draft.{Draft}
use Rattle.sarif_runs.specs.Placed.{Placed}
use Rattle.sarif_scope.specs.declared.gated.GatedChange.{GatedChange}

-- the suppression file; the change, if there is one; the input runs, with the record, the state and the draft of each
-- of their results; the runs of baselines, with the record of each of their results that isn't already absent, whether
-- it is the match of a current result, and the drafts of the others
pub record Matched : Type 0 where
  pub file : File
  pub change : Option GatedChange
  pub runs : List Placed
  pub records : List Record
  pub states : List State
  pub drafts : List Draft
  pub before : List Placed
  pub known : List Record
  pub taken : List Bool
  pub left : List Draft
