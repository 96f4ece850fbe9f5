use Rattle.std.proofs.Common.{rules, leb}
use Rattle.std.proofs.lemmas.List.Sorted.{IsPartitionPoint-from_clause, IsPartitionedBy-leb}
use Rattle.sarif_diff.specs.declared.section.Span.{Span}
use Rattle.sarif_change.proofs.lines.count_to.Goals as goal

pub returns-clause-is : goal.returns-clause-is
returns-clause-is c =
    IsPartitionPoint-from_clause (λ (s : Span). leb s.first c.args.last) c.args.spans.now c.partition_point.result c.partition_point.ensures.partitioned
    (IsPartitionedBy-leb (λ (s : Span). s.first) c.args.spans.now c.args.last c.requires) (λ a r f called. search rules)
