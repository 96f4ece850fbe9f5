use Rattle.sarif_links.proofs.Stripped.{stripped_is}
use Rattle.sarif_findings.proofs.path.strip_root.Goals as goal

pub returns : goal.returns
returns c = stripped_is c.args.root.now c.args.path.now c.strip_prefix.result c.strip_prefix.ensures.cases
