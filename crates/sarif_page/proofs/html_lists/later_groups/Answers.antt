use Rattle.std.proofs.Common.{sym, arith}
use Rattle.std.proofs.lemmas.List.{drop_all, take_rest}
use Rattle.sarif_page.specs.HtmlGroups.{most_groups}
use Rattle.sarif_page.proofs.html_lists.later_groups.Goals as goal

pub returns-then-groups-gt-MOST_GROUPS : goal.returns-then-groups-gt-MOST_GROUPS
returns-then-groups-gt-MOST_GROUPS c = take_rest c.args.groups.now most_groups

pub returns-else-groups-gt-MOST_GROUPS : goal.returns-else-groups-gt-MOST_GROUPS
returns-else-groups-gt-MOST_GROUPS c = sym (drop_all most_groups c.args.groups.now (omega arith))
