use Rattle.std.proofs.Common.{◌∙◌}
use Rattle.sarif_page.specs.Internal.ByFile.{findings_in}
use Rattle.sarif_page.proofs.FilesMore.{grouped_all}
use Rattle.sarif_page.proofs.by_file.by_file.Goals as goal

pub returns : goal.returns
returns c =
    c.in_ok-rows.ensures ∙ grouped_all c.args.most (findings_in c.args.findings.now) c.in_ok-grouped.grouped c.in_ok-grouped.ensures
