use Rattle.std.proofs.Common.{◌≡◌, ◌+◌, ◌++◌, ◌∷◌, [], take, ap, sym, ◌∙◌, arith}
use Rattle.std.proofs.lemmas.List.{take_more}
use Rattle.sarif_scope.specs.Files.{is_named}
use Rattle.sarif_scope.proofs.FilesMore.{one_more}
use Rattle.sarif_scope.proofs.files.count_files.Goals as goal

pub loop-section-preserved : goal.loop-section-preserved
loop-section-preserved g c =
    let all = c.args.sections.now in
    let i = c.loop-section.section-index in
    let s = c.section-item.result in
    let taken : take (i + 1) all ≡ take i all ++ s ∷ [] =
    take_more all i s c.loop-section-test.true ∙ ap (λ x. take i all ++ x ∷ []) (sym c.section-item.is) in
    let table = c.loop-section.invariant.0 in (
      (λ name. c.in_ok-is_new.ensures.met (take i all) table name ∙ ap (λ ys. is_named ys name.now) (sym taken)),
      one_more all i s c.loop-section.count c.one_more_if-count.result c.in_ok-is_new.is_new taken c.loop-section.invariant.1
          (c.in_ok-is_new.ensures.new (take i all) table) c.one_more_if-count.ensures.is,
      omega (arith, c.one_more_if-count.ensures.most, c.loop-section.invariant.2),
    )
