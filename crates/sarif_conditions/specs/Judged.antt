-- A result of a merge as conditions see it.
use Rattle.std.specs.Prelude.{Bool}
use Rattle.sarif_model.specs.declared.kinds.Level.{Level}
use Rattle.sarif_model.specs.declared.kinds.State.{State}
use Rattle.sarif_model.specs.declared.record.Record.{Record}
use Rattle.sarif_policy.specs.declared.rating.Rating.{Rating}
use Rattle.sarif_conditions.specs.declared.judged.JudgedResult.{JudgedResult}

-- its record, state, level and security severity, whether it is suppressed, and inside the change by the
-- changed lines and by the changed files, and whether its tool was heard and it meets the conditions of no suppression entry
pub record Judged : Type 0 where
  pub found : Record
  pub state : State
  pub level : Level
  pub suppressed : Bool
  pub rating : Rating
  pub in_lines : Bool
  pub in_files : Bool
  pub is_gone : Bool

abbrev pub judged_of : JudgedResult → Judged
judged_of r = record {
  found = r.record.now;
  state = r.state;
  level = r.level;
  suppressed = r.suppressed;
  rating = r.rating.now;
  in_lines = r.in_lines;
  in_files = r.in_files;
  is_gone = r.is_gone;
}
