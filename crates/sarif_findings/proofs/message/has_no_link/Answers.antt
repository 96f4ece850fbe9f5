use Rattle.std.proofs.Common.{rules, ◌≡◌}
use Rattle.std.specs.List.{list_all}
use Rattle.sarif_findings.specs.Links.{is_unbracketed}
use Rattle.sarif_findings.proofs.LinksWhole.{no_link_if}
use Rattle.sarif_findings.proofs.message.has_no_link.Goals as goal

pub returns : goal.returns
returns c =
    let told : c.are_unbracketed.result ≡ list_all is_unbracketed c.args.text.now = search rules in
    no_link_if c.are_unbracketed.result c.args.text.now c.utf8.text told
