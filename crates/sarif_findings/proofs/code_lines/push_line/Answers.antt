use Rattle.sarif_findings.proofs.PrintableLines.{keeps_line}
use Rattle.sarif_findings.proofs.code_lines.push_line.Goals as goal

pub returns : goal.returns
returns c =
    let split = c.split_line.ensures in
    keeps_line c.args.text.now c.keep_whole.new.self c.push_each.new.text c.args.line.now c.split_line.result.0.now
    c.split_line.result.1.now split.all split.printable c.in_ok-keep_whole.ensures c.in_ok-push_each.ensures
