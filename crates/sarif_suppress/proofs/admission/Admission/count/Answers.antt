use Rattle.std.proofs.Common.{filter, refl, sym, subst, ap, ◌∙◌, arith}
use Rattle.std.proofs.lemmas.Grind.{common_steps}
use Rattle.sarif_suppress.specs.Internal.Admission.{has_left_at, Admitting, IsAfter}
use Rattle.sarif_suppress.proofs.Limits.{admitted_is, counted_is}
use Rattle.sarif_suppress.proofs.admission.Admission.count.Goals as goal

pub returns-clause-admitted : goal.returns-clause-admitted
returns-clause-admitted g c = λ file before after.
    let state : Admitting = record { left = c.self.inside.left.items; live = c.self.inside.live } in
    let now : IsAfter file before state = subst (IsAfter file before) (sym c.self.view_is) after in
    admitted_is file before c.args.record.now state c.as_slice-numbers.result.now _ now (c.as_slice-numbers.ensures ∙ c.in_ok-met.ensures.entries)
    (c.in_ok-admitted.ensures ∙ ap (λ left. filter (has_left_at left) c.as_slice-numbers.result.now) c.deref.ensures.value)

pub returns-clause-counted : goal.returns-clause-counted
returns-clause-counted g c = λ file before after.
    let state : Admitting = record { left = c.self.inside.left.items; live = c.self.inside.live } in
    let now : IsAfter file before state = subst (IsAfter file before) (sym c.self.view_is) after in
    let admitted =
    admitted_is file before c.args.record.now state c.as_slice-numbers.result.now c.in_ok-admitted.admitted now
    (c.as_slice-numbers.ensures ∙ c.in_ok-met.ensures.entries)
    (c.in_ok-admitted.ensures ∙ ap (λ left. filter (has_left_at left) c.as_slice-numbers.result.now) c.deref.ensures.value) in
    counted_is file before c.args.record.now state _ c.in_ok-admitted.admitted now admitted (grind (arith, common_steps)) refl
