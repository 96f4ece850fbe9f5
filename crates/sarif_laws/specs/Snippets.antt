-- Two merges that differ only in whether records have regions and snippets for entries.
use Rattle.std.specs.Prelude.{◌≡◌, Bool}
use Rattle.sarif_inputs.specs.Faults.{faults_of}
use Rattle.sarif_inputs.specs.Inputs.{Inputs}
use Rattle.sarif_merge.specs.MergedLog.{runs_written, unused_in}

-- the same inputs, whose records have regions and snippets for entries, or not
abbrev pub with_snippets : Bool → Inputs → Inputs
with_snippets snippets inputs = record inputs { snippets = snippets }

-- two merges with the same errors, the same runs and as many unused entries
pub record IsSameMerge (one other : Inputs) : Type 0 where
  pub faults : faults_of one ≡ faults_of other
  pub runs : runs_written one ≡ runs_written other
  pub unused : unused_in one ≡ unused_in other
