use Rattle.std.proofs.Common.{rules, ◌≡◌, ◌-◌, ◌++◌, ap, ◌∙◌, append_assoc, string_bytes}
use Rattle.sarif_counts.specs.Counts.{count_at}
use Rattle.sarif_counts.specs.Hits.{hits_of}
use Rattle.sarif_counts.specs.Summary.{gate_line}
use Rattle.sarif_scope.specs.Counted.{verdict_on}
use Rattle.sarif_scope.specs.Summary.{diff_line, table_of}
use Rattle.sarif_scope.proofs.summary.summary_of_change.Goals as goal

pub returns : goal.returns
returns c =
    let count = count_at c.args.counts.now in
    let policy = c.args.policy.now in
    let facts = c.args.facts.now in
    let hits = hits_of count policy - facts.outside in
    let last = gate_line (verdict_on hits policy) hits policy.max in
    let begun : string_bytes c.push_str.new.self ≡ table_of count ++ diff_line facts = search rules in
    let ended : string_bytes c.push_str-2.new.self ≡ string_bytes c.push_str.new.self ++ last = search rules in
    ended ∙ ap (λ t. t ++ last) begun ∙ append_assoc (table_of count) (diff_line facts) last
