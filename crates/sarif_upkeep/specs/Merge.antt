-- A merge whose results are matched, as far as later merges are concerned.
use Rattle.std.specs.Prelude.{ℕ, ◌+◌, Bool, List, [], ◌∷◌, length, map, Option, Some, None, option_map}
use Rattle.serde_json.specs.Data.{Data}
use Rattle.sarif_model.specs.declared.kinds.State.{State}
use Rattle.sarif_model.specs.declared.merge_fault.At.{At}
use Rattle.sarif_model.specs.declared.record.Record.{Record}
use Rattle.sarif_model.specs.Run.{present, results_of}
use Rattle.sarif_options.specs.declared.policy.Policy.{Policy}
use Rattle.sarif_read.specs.Unmarked.{unmarked}
use Rattle.sarif_evidence.specs.declared.version.MatchingVersion.{MatchingVersion}
use Rattle.sarif_entries.specs.File.{File}
use Rattle.sarif_accept.specs.Choosing.{Marks}
use Rattle.sarif_known.specs.declared.standing.Standing.{Standing}

pub record Merge : Type 0 where
  -- the suppression file as it was read, and its bytes if there is one
  pub file : File
  pub bytes : Option (List ℕ)
  -- the policy of the gate
  pub policy : Policy
  -- the version by which the results were matched
  pub matching : MatchingVersion
  -- whether copies aren't counted; then the results below are findings
  pub once : Bool
  -- whether its known log has regions and snippets
  pub regions : Bool
  -- the input runs, the records of all their results in order, and the baseline states of these
  pub runs : List Data
  pub records : List Record
  pub states : List State
  -- the same states, whether they are doubtful, and with a policy whether each result is or would be a hit
  pub standings : List Standing
  -- which of these are hidden from the gate. If it checks only a change, these are the results that may be reported and are
  -- outside of it, and absent results aren't hits. With conditions of a policy they are all that aren't hits
  pub hidden : Marks
  -- with conditions of a policy, how many absent results are hits
  pub absent : Option ℕ
  -- which of all these are chosen hits, if not all hits are, and the first place or rule of the choice that fits none of them
  pub chosen : Marks
  pub misfit : Option At
  -- the runs of the baselines, the records of their results that are not already absent, and which of these are the
  -- match of a current result
  pub before : List Data
  pub known : List Record
  pub taken : List Bool

-- the elements of a list that aren't hidden
abbrev pub shown_by : {A : Type 0} → Marks → List A → List A
shown_by None xs = xs
shown_by (Some hidden) xs = unmarked hidden xs

-- the marks of what isn't hidden
abbrev pub marks_by : Marks → Marks → Marks
marks_by None marks = marks
marks_by (Some hidden) marks = option_map (unmarked hidden) marks

-- the results that the gate checks, their baseline states, and which of them are chosen hits, if not all hits are
abbrev pub records_shown : Merge → List Record
records_shown m = shown_by m.hidden m.records

abbrev pub states_shown : Merge → List State
states_shown m = shown_by m.hidden m.states

abbrev pub chosen_shown : Merge → Marks
chosen_shown m = marks_by m.hidden m.chosen

-- how many results of each run aren't absent already
abbrev pub present_counts : List Data → List ℕ
present_counts runs = map (λ run. length (present (results_of run))) runs

-- how many results of these runs aren't absent already
abbrev pub present_total : List Data → ℕ
present_total [] = 0
present_total (run ∷ runs) = length (present (results_of run)) + present_total runs
