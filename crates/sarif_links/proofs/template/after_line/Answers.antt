use Rattle.std.proofs.Common.{codes}
use Rattle.sarif_links.proofs.Stripped.{stripped_is}
use Rattle.sarif_links.proofs.template.after_line.Goals as goal

pub returns : goal.returns
returns c = stripped_is (codes "line}") c.args.part.now c.strip_prefix.result c.strip_prefix.ensures.cases
