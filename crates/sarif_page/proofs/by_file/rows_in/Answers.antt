use Rattle.std.proofs.Common.{[], take, map, flat_map, ap, sym, ◌∙◌, arith}
use Rattle.std.proofs.lemmas.List.{take_all}
use Rattle.sarif_page.specs.Internal.ByFile.{findings_in, rows_at}
use Rattle.sarif_page.proofs.FilesMore.{rows_more}
use Rattle.sarif_page.proofs.by_file.rows_in.Goals as goal

pub loop-file-init : goal.loop-file-init
loop-file-init c = record {
  rows = ap findings_in c.new-rows.ensures.items ∙ sym (take_all c.args.most [] (omega arith));
  room = omega (arith, c.new-rows.ensures.len);
}

pub loop-file-preserved : goal.loop-file-preserved
loop-file-preserved c = record {
  rows = rows_more (rows_at c.args.grouped.now.groups) c.args.most c.deref-file-items.result.now c.loop-file.file-index _
      (findings_in c.loop-file.rows.items) _ c.loop-file-test.true c.loop-file.invariant.rows c.in_ok-push_group.ensures.rows;
  room = c.in_ok-push_group.ensures.room;
}

pub returns : goal.returns
returns c =
    c.loop-file.invariant.rows
    ∙ ap (λ l. take c.args.most (flat_map (rows_at c.args.grouped.now.groups) (map (λ t. t.now) l)))
    (take_all c.loop-file.file-index c.deref-file-items.result.now c.loop-file-test.false ∙ c.deref-file-items.ensures.value)
