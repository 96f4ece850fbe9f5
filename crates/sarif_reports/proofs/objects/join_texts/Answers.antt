use Rattle.std.proofs.Common.{rules, ◌≡◌, ◌++◌, ◌∷◌, [], sym, ap, ◌∙◌, subst, append_assoc, string_bytes}
use Rattle.sarif_share.specs.Sharing.{AreJoined}
use Rattle.sarif_share.proofs.Sharings.{joined_more}
use Rattle.sarif_reports.proofs.objects.join_texts.Goals as goal

pub loop-text-preserved : goal.loop-text-preserved
loop-text-preserved c =
    let l = c.loop-text in
    let text = c.in-Some.text in
    let left = c.next.new.self.rest.items in
    let step : l.text-iterator.rest.items ≡ text ∷ left = search rules in
    let more = joined_more string_bytes l.yielded (string_bytes l.all) c.in_ok-text.field-0 l.invariant.1 in (
      l.invariant.0 ∙ ap (λ js. l.yielded ++ js) step ∙ sym (append_assoc l.yielded (text ∷ []) left),
      subst (λ us. AreJoined string_bytes (l.yielded ++ text ∷ []) us) (sym c.in_ok-append.ensures)
          (subst (λ r. AreJoined string_bytes (l.yielded ++ r ∷ []) (string_bytes l.all ++ string_bytes c.in_ok-text.field-0)) (sym c.in_ok-text.was) more),
    )
