use Rattle.std.proofs.Common.{rules, ◌≡◌}
use Rattle.std.specs.List.{list_all}
use Rattle.sarif_findings.specs.Placeholders.{is_unbraced}
use Rattle.sarif_findings.proofs.MessageWhole.{stays_if}
use Rattle.sarif_findings.proofs.message.stays.Goals as goal

pub returns : goal.returns
returns c =
    let told : c.are_unbraced.result ≡ list_all is_unbraced c.args.text.now = search rules in
    stays_if c.are_unbraced.result c.args.text.now c.utf8.text told
