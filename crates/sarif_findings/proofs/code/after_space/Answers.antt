use Rattle.std.proofs.Common.{lit<}
use Rattle.std.proofs.lemmas.Str.Pattern.{strip_prefix_char}
use Rattle.sarif_findings.proofs.code.after_space.Goals as goal

pub returns : goal.returns
returns c = strip_prefix_char 32 c.args.line.now c.strip_prefix.result c.strip_prefix.ensures.cases (lit< tt)
