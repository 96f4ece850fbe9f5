use Rattle.std.proofs.Common.{◌≡◌, ◌++◌, drop, string_bytes}
use Rattle.sarif_reports.specs.MarkdownReport.{condition_rows}
use Rattle.sarif_reports.proofs.markdown_table.push_condition_rows.Given as goal

-- the text so far, and then the rows of the conditions that are left
abbrev pub invariant-loop-condition : goal.invariant-loop-condition
invariant-loop-condition l =
    string_bytes l.text ++ condition_rows (drop l.condition-index l.conditions) ≡ string_bytes l.fn.text ++ condition_rows l.conditions
