use Rattle.std.proofs.Common.{rules, ◌≡◌, ◌<◌, ◌+◌, ◌++◌, ◌∷◌, [], false, drop, get_or, length, sym, ap, ◌∙◌, append_assoc, arith}
use Rattle.sarif_read.specs.Unmarked.{unmarked}
use Rattle.sarif_once.specs.Once.{marked}
use Rattle.sarif_once.proofs.Lists.{marked_step, unmarked_step}
use Rattle.sarif_once.proofs.thinning.split_outcomes.Goals as goal

pub loop-outcome-preserved : goal.loop-outcome-preserved
loop-outcome-preserved c =
    let l = c.loop-outcome in
    let x = c.in-Some.outcome in
    let marks = c.args.marks.now in
    let left = c.next.new.self.rest.items in
    let step : l.outcome-iterator.rest.items ≡ x ∷ left = search rules in
    let many = ap length step in
    let counted = l.invariant.counted in
    let below : l.number < length marks = omega (arith, many, counted) in
    let b = get_or marks l.number false in record {
      parts = l.invariant.parts ∙ ap (λ xs. l.yielded ++ xs) step ∙ sym (append_assoc l.yielded (x ∷ []) left);
      counted = omega (arith, many, counted);
      rest =
          ap (λ ys. ys ++ unmarked (drop (l.number + 1) marks) left) c.in_ok-add.ensures.rest
          ∙ append_assoc l.split.rest.items (unmarked (b ∷ []) (x ∷ [])) (unmarked (drop (l.number + 1) marks) left)
          ∙ ap (λ ys. l.split.rest.items ++ ys) (unmarked_step marks l.number false x left below)
          ∙ sym (ap (λ xs. l.split.rest.items ++ unmarked (drop l.number marks) xs) step)
          ∙ l.invariant.rest;
      marked =
          ap (λ ys. ys ++ marked (drop (l.number + 1) marks) left) c.in_ok-add.ensures.marked
          ∙ append_assoc l.split.marked.items (marked (b ∷ []) (x ∷ [])) (marked (drop (l.number + 1) marks) left)
          ∙ ap (λ ys. l.split.marked.items ++ ys) (marked_step marks l.number false x left below)
          ∙ sym (ap (λ xs. l.split.marked.items ++ marked (drop l.number marks) xs) step)
          ∙ l.invariant.marked;
    }
