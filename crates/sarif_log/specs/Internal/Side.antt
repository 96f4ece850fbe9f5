-- For the contract of the log's text.
use Rattle.std.specs.Prelude.{◌≡◌, ℕ, List, length}
use Rattle.std.specs.List.{AllByRecursion}
use Rattle.sarif_log.specs.declared.merged_text.Side.{Side}
use Rattle.sarif_log.specs.Internal.Texts.{counts_in_parts, left_texts, runs_texts, IsWholeRun}

-- there are a draft and a state, or none, for each result of the runs, and no run holds a number with a fraction
pub record IsSide (side : Side) : Type 0 where
  pub whole : AllByRecursion IsWholeRun side.runs.items
  pub drafts : length side.drafts.items ≡ counts_in_parts side.runs.items
  pub states : length side.states.items ≡ length side.drafts.items

-- the JSON of all runs, run by run
abbrev pub texts_of_runs : Side → List (List ℕ)
texts_of_runs side = runs_texts side.runs.items side.drafts.items side.states.items

-- the JSON of the runs that have a written result, run by run
abbrev pub texts_of_left : Side → List (List ℕ)
texts_of_left side = left_texts side.runs.items side.drafts.items side.states.items
