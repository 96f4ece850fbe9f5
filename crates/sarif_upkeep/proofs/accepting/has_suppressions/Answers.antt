use Rattle.std.proofs.Common.{length, ap, ◌∙◌}
use Rattle.std.specs.Prelude.{◌==◌}
use Rattle.sarif_upkeep.proofs.Stays.{stays_by_entries, stays_by_own}
use Rattle.sarif_upkeep.proofs.accepting.has_suppressions.Goals as goal

pub returns-then-not-is_empty : goal.returns-then-not-is_empty
returns-then-not-is_empty c = λ file same active.
    stays_by_own file c.args.record.now c.args.draft.now.applied same active c.is_empty.result
    (c.is_empty.ensures ∙ ap (λ l. length l == 0) c.as_slice.ensures) c.if-not-is_empty.true

pub returns-else-not-is_empty : goal.returns-else-not-is_empty
returns-else-not-is_empty c = λ file same active.
    stays_by_entries file c.args.record.now c.args.draft.now.applied same active c.is_empty.result c.is_empty-else-not-is_empty.result
    (c.is_empty.ensures ∙ ap (λ l. length l == 0) c.as_slice.ensures)
    (c.is_empty-else-not-is_empty.ensures ∙ ap (λ l. length l == 0) c.as_slice-else-not-is_empty.ensures) c.if-not-is_empty.false
