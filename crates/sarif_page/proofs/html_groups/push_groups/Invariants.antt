use Rattle.std.proofs.Common.{◌≡◌, ◌+◌, ◌++◌, drop, option_map, string_bytes}
use Rattle.sarif_page.specs.HtmlGroups.{groups_from}
use Rattle.sarif_page.specs.Internal.Groups.{groups_in}
use Rattle.sarif_page.proofs.html_groups.push_groups.Given as goal

abbrev pub invariant-loop-group : goal.invariant-loop-group
invariant-loop-group l = record {
  told : string_bytes l.text ++ groups_from (option_map (λ link. link.now) l.link) l.room l.number (groups_in (drop l.group-index l.groups))
      ≡ string_bytes l.fn.text ++ groups_from (option_map (λ link. link.now) l.link) l.fn.room l.fn.number (groups_in l.groups);
  number : l.number ≡ l.fn.number + l.group-index;
}
