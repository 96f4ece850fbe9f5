use Rattle.std.proofs.Common.{rules, ◌≡◌, ◌++◌, ap, sym, ◌∙◌}
use Rattle.sarif_counts.specs.Counts.{count_at}
use Rattle.sarif_counts.specs.Hits.{hits_of, verdict_of}
use Rattle.sarif_counts.specs.Summary.{gate_line, summary_of}
use Rattle.sarif_scope.specs.Summary.{table_of}
use Rattle.sarif_scope.proofs.TextEnds.{table_first}
use Rattle.sarif_scope.proofs.summary.counts_table.Goals as goal

pub returns : goal.returns
returns c =
    let count = count_at c.args.counts.now in
    let policy = c.default.result in
    let all : c.as_str.result.now ≡ summary_of count policy = search rules in
    let last : c.as_str-2.result.now ≡ gate_line (verdict_of count policy) (hits_of count policy) policy.max = search rules in
    c.in_ok-table.ensures.ok
    ∙ c.before_end.ensures (table_of count) (all ∙ table_first count policy ∙ ap (λ t. table_of count ++ t) (sym last))
