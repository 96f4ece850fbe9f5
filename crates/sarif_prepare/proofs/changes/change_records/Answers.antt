use Rattle.std.proofs.Common.{rules, ◌≡◌, ◌++◌, [], ◌∷◌, sym, ap, ◌∙◌, append_assoc}
use Rattle.sarif_prepare.specs.Internal.Limiting.{put_admitted}
use Rattle.sarif_prepare.proofs.Limits.{put_none}
use Rattle.sarif_suppress.specs.Limited.{with_admitted}
use Rattle.sarif_prepare.proofs.changes.change_records.Goals as goal

pub loop-record-preserved : goal.loop-record-preserved
loop-record-preserved c =
    let l = c.loop-record in
    let one = c.in-Some.record in
    let left = c.next.new.self.rest.items in
    let step : l.record-iterator.rest.items ≡ one ∷ left = search rules in
    let none : l.admitted.rest.items ≡ [] = search rules in
    let after : c.next-in-loop-record.new.self.rest.items ≡ [] = search rules in
    let pushed : c.push-in-None-next.new.self.items ≡ l.changed.items ++ one ∷ [] = search rules in
    record {
      parts = l.invariant.parts ∙ ap (λ xs. l.yielded ++ xs) step ∙ sym (append_assoc l.yielded (one ∷ []) left);
      changed =
          ap (λ ys. c.push-in-None-next.new.self.items ++ put_admitted left ys) after
          ∙ ap (λ zs. c.push-in-None-next.new.self.items ++ zs) (put_none with_admitted left)
          ∙ ap (λ xs. xs ++ left) pushed
          ∙ append_assoc l.changed.items (one ∷ []) left
          ∙ sym (ap (λ ys. l.changed.items ++ put_admitted (one ∷ left) ys) none)
          ∙ sym (ap (λ xs. l.changed.items ++ put_admitted xs l.admitted.rest.items) step)
          ∙ l.invariant.changed;
    }
