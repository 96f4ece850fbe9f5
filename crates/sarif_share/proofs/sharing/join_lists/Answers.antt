use Rattle.std.proofs.Common.{rules, ◌≡◌, ◌++◌, ◌∷◌, [], sym, ap, ◌∙◌, subst, append_assoc}
use Rattle.sarif_share.specs.Sharing.{AreJoined}
use Rattle.sarif_share.proofs.Sharings.{joined_more}
use Rattle.sarif_share.proofs.sharing.join_lists.Goals as goal

pub loop-list-preserved : goal.loop-list-preserved
loop-list-preserved g c =
    let l = c.loop-list in
    let list = c.in-Some.list in
    let left = c.next.new.self.rest.items in
    let step : l.list-iterator.rest.items ≡ list ∷ left = search rules in
    let more = joined_more (λ v. v.items) l.yielded l.all.items c.in_ok-list.field-0 l.invariant.1 in (
      l.invariant.0 ∙ ap (λ js. l.yielded ++ js) step ∙ sym (append_assoc l.yielded (list ∷ []) left),
      subst (λ us. AreJoined (λ v. v.items) (l.yielded ++ list ∷ []) us) (sym c.in_ok-append.ensures.items)
          (subst (λ r. AreJoined (λ v. v.items) (l.yielded ++ r ∷ []) (l.all.items ++ c.in_ok-list.field-0.items)) (sym c.in_ok-list.was) more),
    )
