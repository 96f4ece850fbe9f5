use Rattle.std.proofs.Common.{sym, ap, ◌∙◌, arith}
use Rattle.std.proofs.lemmas.Bool.{lt-ltb}
use Rattle.sarif_collect.specs.Numbers.{has_number}
use Rattle.sarif_collect.proofs.Numbering.{has_in_row, has_past_row}
use Rattle.sarif_collect.proofs.numbered.Numbered.contains.Goals as goal

pub returns-then-seq-len : goal.returns-then-seq-len
returns-then-seq-len g c = let n = c.self.inside in
    lt-ltb _ _ c.if-seq-len.true ∙ sym (has_in_row 0 c.args.seq n.row.items n.early.entries (omega arith) (omega arith))
    ∙ ap (has_number c.args.seq) c.self.view_is

pub returns-else-seq-len : goal.returns-else-seq-len
returns-else-seq-len g c = let n = c.self.inside in
    c.contains_key.ensures ∙ sym (has_past_row 0 c.args.seq n.row.items n.early.entries (omega arith)) ∙ ap (has_number c.args.seq) c.self.view_is
