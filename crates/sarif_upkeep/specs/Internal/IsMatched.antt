-- The merge that a matched merge is, as the code holds it.
use Rattle.std.specs.Prelude.{◌≡◌, ◌≤◌, ℕ, List, [], Option, Some, None, Ok, map, length, option_map, IfSome}
use Rattle.sarif_model.specs.Limits.{most_results}
use Rattle.sarif_model.specs.Run.{results_total}
use Rattle.sarif_entries.specs.File.{file_of, File}
use Rattle.sarif_runs.specs.Judging.{run_values}
use Rattle.sarif_runs.specs.Internal.Opened.{placed_of}
use Rattle.sarif_results.specs.Drafts.{applied_of}
use Rattle.sarif_upkeep.specs.Merge.{present_counts, present_total, Merge}
use Rattle.sarif_upkeep.specs.declared.matched.Before.{Before}
use Rattle.sarif_upkeep.specs.declared.matched.Current.{Current}
use Rattle.sarif_upkeep.specs.declared.matched.Matched.{Matched}

-- the file was read from these bytes; without a file there are no entries
abbrev pub IsFileOf : Option (List ℕ) → File → Type 0
IsFileOf None file = file.entries ≡ []
IsFileOf (Some bytes) file = file_of bytes file.today ≡ Ok file

-- the results of the input runs
pub record IsCurrent (m : Merge) (current : Current) : Type 0 where
  pub runs : run_values (map placed_of current.runs.now) ≡ m.runs
  pub records : current.records.now ≡ m.records
  pub drafts : map (λ draft. draft.applied) current.drafts.now ≡ map (applied_of m.file) m.records
  pub states : current.states.now ≡ m.states
  pub standings : current.standings.now ≡ m.standings
  pub records_long : length m.records ≡ results_total m.runs
  pub states_long : length m.states ≡ length m.records
  pub standings_long : length m.standings ≡ length m.records
  pub few : length m.records ≤ most_results

-- the results of the baselines
pub record IsBefore (m : Merge) (before : Before) : Type 0 where
  pub runs : run_values (map placed_of before.runs.now) ≡ m.before
  pub counts : before.counts.now ≡ present_counts m.before
  pub records : before.records.now ≡ m.known
  pub taken : before.taken.now ≡ m.taken
  pub records_long : length m.known ≡ present_total m.before
  pub taken_long : length m.taken ≡ length m.known
  pub few : length m.known ≤ most_results

pub record IsMatched (m : Merge) (matched : Matched) : Type 0 where
  pub file : matched.file.now ≡ m.file
  pub bytes : option_map (λ b. b.now) matched.bytes ≡ m.bytes
  pub read : IsFileOf m.bytes m.file
  pub policy : matched.policy ≡ m.policy
  pub matching : matched.matching ≡ m.matching
  pub once : matched.once ≡ m.once
  pub regions : matched.regions ≡ m.regions
  pub hidden : option_map (λ marks. marks.now) matched.hidden ≡ m.hidden
  pub hidden_long : IfSome m.hidden (λ marks. length marks ≡ length m.records)
  pub absent : matched.absent ≡ m.absent
  pub absent_few : IfSome m.absent (λ hits. hits ≤ length m.known)
  pub chosen : option_map (λ marks. marks.now) matched.chosen ≡ m.chosen
  pub chosen_long : IfSome m.chosen (λ marks. length marks ≡ length m.records)
  pub fits : m.misfit ≡ None
  pub current : IsCurrent m matched.current
  pub before : IsBefore m matched.before
