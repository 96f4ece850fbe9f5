-- A merge whose log and counts are those of two others together.
use Rattle.std.specs.Prelude.{◌≡◌, ◌↔◌, ℕ, ◌+◌, ◌++◌, ◌||◌, Bool, Option, is_none, is_some}
use Rattle.std.specs.List.{list_all}
use Rattle.sarif_model.specs.declared.kinds.Level.{Level}
use Rattle.sarif_model.specs.declared.kinds.State.{State}
use Rattle.sarif_options.specs.declared.policy.Policy.{Policy}
use Rattle.sarif_counts.specs.declared.gate_verdict.Verdict.TheVariants.{Pass}
use Rattle.sarif_counts.specs.CountOf.{count_of}
use Rattle.sarif_counts.specs.Hits.{Count}
use Rattle.sarif_scope.specs.Counted.{hits_by, verdict_by}
use Rattle.sarif_scope.specs.declared.gated.GatedChange.{GatedChange}
use Rattle.sarif_entries.specs.declared.condition.ConditionKind.TheVariants as kinds
use Rattle.sarif_entries.specs.declared.entry.Entry.{Entry}
use Rattle.sarif_entries.specs.Condition.{text_in}
use Rattle.sarif_entries.specs.File.{File}
use Rattle.sarif_inputs.specs.Inputs.{Inputs}
use Rattle.sarif_merge.specs.MergedLog.{runs_written, without_of, written_inputs}
use Rattle.sarif_laws.specs.NextMerge.{absent_written}

-- what the gate of the merge counts
abbrev pub counts_in : Inputs → Count
counts_in inputs = count_of (runs_written inputs)

-- the hits of the merge, with a change or without one
abbrev pub hits_in : Option GatedChange → Inputs → Policy → ℕ
hits_in change inputs policy = hits_by change policy (runs_written inputs)

-- the merge passes, with a change or without one
abbrev pub Passes : Option GatedChange → Inputs → Policy → Type 0
Passes change inputs policy = verdict_by change policy (runs_written inputs) ≡ Pass

-- the entry names a tool, unless it has no `max`
abbrev pub names_its_tool : Entry → Bool
names_its_tool e = is_none e.limit || is_some (text_in kinds.Tool e.conditions)

-- each entry with a `max` names a tool, and so counts only the results of that tool
abbrev pub is_limited_by_tool : File → Bool
is_limited_by_tool file = list_all names_its_tool file.entries

-- a merge whose log and counts are those of two others
pub record IsSumOf (first second both : Inputs) : Type 0 where
  -- each input run is written as in its own merge: each result with its level, its state and its suppressions
  pub written : written_inputs both ≡ written_inputs first ++ written_inputs second
  -- and the absent results are those of the two
  pub absent : absent_written both ≡ absent_written first ++ absent_written second
  -- so each count is the sum of the two counts
  pub counts : (state : State) (level : Level) (suppressed : Bool)
      → counts_in both state level suppressed
      ≡ counts_in first state level suppressed + counts_in second state level suppressed
  pub without : without_of both ≡ without_of first + without_of second
  -- and the hits are the sum of the hits, with each change and without one
  pub hits : (change : Option GatedChange) (policy : Policy)
      → hits_in change both policy ≡ hits_in change first policy + hits_in change second policy
  -- so if no hit is allowed, the gate passes exactly if it passes in both
  pub verdict : (change : Option GatedChange) (policy : Policy) → policy.max ≡ 0
      → Passes change both policy ↔ (Passes change first policy × Passes change second policy)
