use Rattle.std.proofs.Common.{arith}
use Rattle.std.proofs.lemmas.List.{length-map}
use Rattle.sarif_page.specs.Internal.ByFile.{findings_in}
use Rattle.sarif_page.proofs.GroupsMore.{groups_all}
use Rattle.sarif_page.proofs.groups.rows_by_file.Goals as goal

pub returns : goal.returns
returns c =
    groups_all _ (findings_in c.args.rows.now) c.in_ok-grouped.grouped (omega (arith, length-map c.args.rows.now (λ f. f.now))) c.in_ok-grouped.ensures
