use Rattle.std.proofs.Common.{◌≡◌, ◌++◌, drop, string_bytes}
use Rattle.sarif_page.specs.HtmlIndex.{index_rows}
use Rattle.sarif_page.specs.Internal.Groups.{groups_in}
use Rattle.sarif_page.specs.Internal.Rules.{rules_in}
use Rattle.sarif_page.proofs.html_index.push_index_rows.Given as goal

abbrev pub invariant-loop-rule : goal.invariant-loop-rule
invariant-loop-rule l =
    string_bytes l.text ++ index_rows l.number (groups_in l.groups) (rules_in (drop l.rule-index l.rules))
    ≡ string_bytes l.fn.text ++ index_rows l.number (groups_in l.groups) (rules_in l.rules)
