use Rattle.std.proofs.Common.{sym, ap, ◌∙◌, arith}
use Rattle.sarif_collect.specs.Numbers.{counts_up}
use Rattle.sarif_collect.proofs.Numbering.{counts_through_row}
use Rattle.sarif_collect.proofs.numbered.Numbered.is_just.Goals as goal

pub loop-seq-init : goal.loop-seq-init
loop-seq-init g c = let n = c.self.inside in (
  tt,
  tt,
  ap (counts_up 0 c.args.count) (sym c.self.view_is) ∙ counts_through_row 0 c.args.count n.row.items n.early.entries
      ∙ ap (λ m. counts_up m c.args.count n.early.entries) (omega arith)
      ∙ ap (counts_up c.len-next.result c.args.count) (sym (c.into_iter-seq-iterator.ensures.into_iter_gives ∙ c.iter-seq-items.ensures.rest)),
)
