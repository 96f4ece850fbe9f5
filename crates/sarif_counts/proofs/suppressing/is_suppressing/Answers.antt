use Rattle.std.proofs.Common.{rules, ◌∙◌}
use Rattle.sarif_counts.proofs.Suppressed.{suppresses-not_empty}
use Rattle.sarif_counts.proofs.suppressing.is_suppressing.Goals as goal

pub returns-then-not-is_empty : goal.returns-then-not-is_empty
returns-then-not-is_empty c =
    c.are_accepted.ensures ∙ suppresses-not_empty c.args.suppressions.now c.is_empty.result (search rules) c.is_empty.ensures
