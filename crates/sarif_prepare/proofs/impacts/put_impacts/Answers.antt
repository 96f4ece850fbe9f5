use Rattle.std.proofs.Common.{rules, ◌≡◌, ◌++◌, [], ◌∷◌, sym, ap, ◌∙◌, append_assoc}
use Rattle.sarif_prepare.specs.Internal.Impacts.{put_impact, put_impacts}
use Rattle.sarif_prepare.proofs.Limits.{put_none}
use Rattle.sarif_prepare.proofs.impacts.put_impacts.Goals as goal

pub loop-finding-preserved : goal.loop-finding-preserved
loop-finding-preserved c =
    let l = c.loop-finding in
    let one = c.in-Some.finding in
    let left = c.next.new.self.rest.items in
    let step : l.finding-iterator.rest.items ≡ one ∷ left = search rules in
    let none : l.impacts.rest.items ≡ [] = search rules in
    let after : c.next-in-loop-finding.new.self.rest.items ≡ [] = search rules in
    let pushed : c.push-in-None-next.new.self.items ≡ l.put.items ++ one ∷ [] = search rules in
    record {
      parts = l.invariant.parts ∙ ap (λ xs. l.yielded ++ xs) step ∙ sym (append_assoc l.yielded (one ∷ []) left);
      changed =
          ap (λ ys. c.push-in-None-next.new.self.items ++ put_impacts left ys) after
          ∙ ap (λ zs. c.push-in-None-next.new.self.items ++ zs) (put_none put_impact left)
          ∙ ap (λ xs. xs ++ left) pushed
          ∙ append_assoc l.put.items (one ∷ []) left
          ∙ sym (ap (λ ys. l.put.items ++ put_impacts (one ∷ left) ys) none)
          ∙ sym (ap (λ xs. l.put.items ++ put_impacts xs l.impacts.rest.items) step)
          ∙ l.invariant.changed;
    }
