use Rattle.std.proofs.Common.{[], ◌∷◌, ◌++◌, map, arith, sym, ap, ◌∙◌}
use Rattle.std.specs.List.{range_with_len}
use Rattle.std.proofs.lemmas.List.FromFn.{map-range_with_len_more}
use Rattle.sarif_match.specs.Partners.{is_taken}
use Rattle.sarif_prepare.proofs.matched.list_taken.Goals as goal

pub loop-number-preserved : goal.loop-number-preserved
loop-number-preserved c =
    c.in_ok-push.ensures.items
    ∙ ap (λ marks. marks ++ c.taken.result ∷ []) c.loop-number.invariant
    ∙ ap (λ mark. map (is_taken c.args.matching.now) (range_with_len 0 c.loop-number.number) ++ mark ∷ []) c.taken.ensures
    ∙ sym (map-range_with_len_more (is_taken c.args.matching.now) 0 c.loop-number.number c.loop-number.number (omega arith))
