use Rattle.std.proofs.Common.{rules, ◌≡◌, ◌<◌, ◌+◌, ◌++◌, ◌∷◌, [], length, take, arith, sym, subst}
use Rattle.std.proofs.lemmas.Fn.{says_at}
use Rattle.std.specs.Fn.{FnReturnsAt}
use Rattle.std.specs.Prelude.{Ok}
use Rattle.sarif_share.specs.Sharing.{GivesEachAt}
use Rattle.sarif_share.proofs.Sharings.{one_more}
use Rattle.sarif_share.proofs.sharing.each_in_turn.Goals as goal

pub loop-item-preserved : goal.loop-item-preserved
loop-item-preserved g c =
    let l = c.loop-item in
    let i = l.item-index in
    let f = c.args.one.now in
    let items = c.args.items.now in
    let item = c.item-item.result in
    let made = c.in_ok-one.field-0 in
    let below : i < length items = omega arith in
    let said : FnReturnsAt g.F.Fn f item (Ok made) = says_at g.F.Fn c.one.ensures c.in_ok-one.was in
    let here = subst (λ x. FnReturnsAt g.F.Fn f x (Ok made)) c.item-item.is said in
    let pushed : c.push.new.self.items ≡ l.made.items ++ made ∷ [] = search rules in
    subst (λ us. GivesEachAt g.F.Fn f (take (i + 1) items) us) (sym pushed)
    (one_more (λ x u. FnReturnsAt g.F.Fn f x (Ok u)) items i item l.made.items made below l.invariant here)
