use Rattle.std.proofs.Common.{◌≡◌, ◌+◌, drop, string_bytes}
use Rattle.sarif_page.specs.HtmlIndex.{first_link}
use Rattle.sarif_page.specs.Internal.Groups.{groups_in}
use Rattle.sarif_page.proofs.html_index.push_first_link.Given as goal

abbrev pub invariant-loop-group : goal.invariant-loop-group
invariant-loop-group l = record {
  told : first_link l.finding l.number (groups_in (drop l.group-index l.groups)) ≡ first_link l.finding l.fn.number (groups_in l.groups);
  same : string_bytes l.text ≡ string_bytes l.fn.text;
  number : l.number ≡ l.fn.number + l.group-index;
}
