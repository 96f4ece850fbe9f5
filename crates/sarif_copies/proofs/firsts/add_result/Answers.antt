use Rattle.std.proofs.Common.{rules, ◌≡◌, true, false, sym, ◌∙◌}
use Rattle.sarif_copies.specs.Copies.{has_line}
use Rattle.sarif_copies.proofs.Alike.{added, left_out, own_finding}
use Rattle.sarif_copies.proofs.firsts.add_result.Goals as goal

pub returns-then-not-has_line-clause-first : goal.returns-then-not-has_line-clause-first
returns-then-not-has_line-clause-first g c = λ before count table.
    let none : has_line c.args.found.now ≡ false = search rules in
    sym count ∙ own_finding before c.args.found.now none

pub returns-then-not-has_line-clause-added : goal.returns-then-not-has_line-clause-added
returns-then-not-has_line-clause-added g c = λ before count table.
    let none : has_line c.args.found.now ≡ false = search rules in
    left_out before c.args.found.now c.args.table.now table none

pub returns-clause-added : goal.returns-clause-added
returns-clause-added g c = λ before count table key other.
    let line : has_line c.args.found.now ≡ true = search rules in
    added before c.args.found.now c.args.table.now table c.whole_record.result c.whole_record.ensures line c.args.number count
    c.in_ok-first.first c.in_ok-first.ensures.first key other _ (c.in_ok-first.ensures.kept key)
