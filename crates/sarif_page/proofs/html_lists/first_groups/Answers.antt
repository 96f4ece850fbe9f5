use Rattle.std.proofs.Common.{sym, arith}
use Rattle.std.proofs.lemmas.List.{take_all, length-take-le}
use Rattle.sarif_page.specs.HtmlGroups.{most_groups}
use Rattle.sarif_page.proofs.html_lists.first_groups.Goals as goal

pub slice_bounds-result-end : goal.slice_bounds-result-end
slice_bounds-result-end c = sym (length-take-le most_groups c.args.groups.now (omega arith))

pub returns-else-groups-gt-MOST_GROUPS : goal.returns-else-groups-gt-MOST_GROUPS
returns-else-groups-gt-MOST_GROUPS c = sym (take_all most_groups c.args.groups.now (omega arith))
