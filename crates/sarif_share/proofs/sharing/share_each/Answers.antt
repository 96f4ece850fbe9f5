use Rattle.std.proofs.Common.{◌+◌, length, subst, ◌∙◌}
use Rattle.std.proofs.lemmas.Result.{IfOk-weaker}
use Rattle.std.specs.Fn.{FnReturnsAt}
use Rattle.std.specs.Prelude.{Ok}
use Rattle.sarif_share.specs.Sharing.{AreJoined, GivesEachAt}
use Rattle.sarif_share.proofs.Sharings.{part_within, parts_whole}
use Rattle.sarif_share.proofs.sharing.share_each.Goals as goal

pub share_parts-requires-after_bounds : goal.share_parts-requires-after_bounds
share_parts-requires-after_bounds g c κs within before after p whole k d below q is =
    let at = part_within c.args.items.now before p.now after k d whole below in
    c.requires (length before + k) d at.0 q (is ∙ at.1)

pub returns : goal.returns
returns g c =
    let f = c.args.one.now in
    let items = c.args.items.now in
    let lists = c.in_ok-lists.lists.items in
    IfOk-weaker c.join_lists.result (λ all. AreJoined (λ v. v.items) lists all.items) (λ made. GivesEachAt g.F.Fn f items made.items)
    (λ v are. parts_whole _ _ (λ x u. FnReturnsAt g.F.Fn f x (Ok u))
    (λ start p w at. subst (λ q. GivesEachAt g.F.Fn f q w.items) at.shows at.call) items lists v.items c.in_ok-lists.ensures are)
    c.join_lists.ensures
