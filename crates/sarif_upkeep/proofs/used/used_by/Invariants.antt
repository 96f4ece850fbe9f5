use Rattle.std.proofs.Common.{◌≡◌, List, map, take}
use Rattle.sarif_model.specs.declared.record.Record.{Record}
use Rattle.sarif_suppress.specs.Internal.Marks.{marks_of}
use Rattle.sarif_results.specs.Drafts.{applied_of}
use Rattle.sarif_upkeep.proofs.used.used_by.Given as goal

abbrev pub invariant-loop-draft : goal.invariant-loop-draft
invariant-loop-draft l =
    (rs : List Record) → map (λ draft. draft.applied) l.drafts ≡ map (applied_of l.file) rs → l.marks ≡ marks_of l.file (take l.draft-index rs)
