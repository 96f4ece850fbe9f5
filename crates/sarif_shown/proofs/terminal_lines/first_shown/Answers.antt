use Rattle.std.proofs.Common.{sym, arith}
use Rattle.std.proofs.lemmas.List.{take_all, length-take-le}
use Rattle.sarif_shown.proofs.terminal_lines.first_shown.Goals as goal
use Rattle.sarif_shown.specs.TerminalReport.{most_shown}

pub slice_bounds-result-end : goal.slice_bounds-result-end
slice_bounds-result-end c = sym (length-take-le most_shown c.args.hits.now (omega arith))

pub returns-else-hits-gt-MOST_SHOWN : goal.returns-else-hits-gt-MOST_SHOWN
returns-else-hits-gt-MOST_SHOWN c = sym (take_all most_shown c.args.hits.now (omega arith))
