-- What a change makes of the results of logs, from their drafts and states.
use Rattle.std.specs.Prelude.{◌≡◌, ◌+◌, not, Bool, List, map, Option, Some, None}
use Rattle.sarif_counts.specs.Hits.{hits_of, Count}
use Rattle.sarif_model.specs.declared.kinds.State.{State}
use Rattle.sarif_model.specs.declared.kinds.State.TheVariants.{Absent}
use Rattle.sarif_options.specs.declared.policy.Policy.{Policy}
use Rattle.sarif_log.specs.Internal.Copied.{masked}
use Rattle.sarif_log.specs.Internal.Texts.{tallied}
use Rattle.sarif_outside.specs.Marks.{outside_marks}
use Rattle.sarif_runs.specs.Internal.Opened.{placed_of}
use Rattle.sarif_scope.specs.Counted.{for_reports}
use Rattle.sarif_scope.specs.declared.facts.ChangeFacts.{ChangeFacts}
use Rattle.sarif_scope.specs.declared.gated.GatedChange.{GatedChange}
use Rattle.sarif_prepare.specs.Hidden.{active_of}
use Rattle.sarif_prepare.specs.declared.halves.Half.{Half}
use Rattle.sarif_prepare.specs.declared.outside.Narrowed.{Narrowed}
use Rattle.sarif_prepare.specs.declared.pairing.Paired.{Paired}

-- the counts of the results that aren't inside: those of logs that are marked, and all that are left of baselines
abbrev pub others_tallied : Half → Paired → List Bool → Count
others_tallied half paired marks state level suppressed =
    tallied half.drafts.items (masked (map not marks) paired.states.items) state level suppressed
    + tallied paired.left.items (map (λ _. Some Absent) paired.left.items) state level suppressed

-- what a change makes of the results of these runs of logs: the active ones that are outside are marked, and have no
-- state
pub record IsNarrowed (change : GatedChange) (policy : Policy) (half : Half) (paired : Paired)
    (narrowed : Narrowed) : Type 0 where
  pub marks : narrowed.marks.items
      ≡ outside_marks change (map placed_of half.runs.items) (active_of half.drafts.items)
  pub states : narrowed.states.items ≡ masked narrowed.marks.items paired.states.items
  pub outside : narrowed.outside ≡ hits_of (others_tallied half paired narrowed.marks.items) policy
  pub unreported : narrowed.unreported
      ≡ hits_of (others_tallied half paired narrowed.marks.items) (for_reports policy)

-- the same if there is a change; without one, nothing
abbrev pub AreNarrowed : Option GatedChange → Policy → Half → Paired → Option Narrowed → Type 0
AreNarrowed None policy half paired narrowed = narrowed ≡ None
AreNarrowed (Some change) policy half paired None = ⊥
AreNarrowed (Some change) policy half paired (Some narrowed) =
    IsNarrowed change policy half paired narrowed

-- the states of the results that are shown
abbrev pub states_by : Option Narrowed → Paired → List (Option State)
states_by None paired = paired.states.items
states_by (Some narrowed) paired = narrowed.states.items

-- what the gate says about the change
abbrev pub facts_told : Option GatedChange → Option Narrowed → Option ChangeFacts
facts_told None narrowed = None
facts_told (Some change) None = None
facts_told (Some change) (Some narrowed) = Some (record {
  files = change.files;
  lines = change.lines;
  outside = narrowed.outside;
  unreported = narrowed.unreported;
  scope = change.scope;
})
