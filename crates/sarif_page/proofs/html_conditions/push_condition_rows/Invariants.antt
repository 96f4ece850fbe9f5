use Rattle.std.proofs.Common.{◌≡◌, ◌++◌, drop, flat_map, string_bytes}
use Rattle.sarif_page.specs.HtmlReport.{condition_row}
use Rattle.sarif_page.proofs.html_conditions.push_condition_rows.Given as goal

-- the text so far, and then the rows of the conditions that are left
abbrev pub invariant-loop-condition : goal.invariant-loop-condition
invariant-loop-condition l =
    string_bytes l.text ++ flat_map condition_row (drop l.condition-index l.conditions)
    ≡ string_bytes l.fn.text ++ flat_map condition_row l.conditions
