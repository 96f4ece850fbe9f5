use Rattle.sarif_page.proofs.GroupsWhole.{groups_have_each_once, groups_have_rows}
use Rattle.sarif_page.proofs.laws.page_groups_have_each_row.Goals as goal

pub returns : goal.returns
returns c = record { rows = groups_have_rows; once = groups_have_each_once }
