use Rattle.std.proofs.Common.{rules, ◌≡◌, ◌++◌, [], ◌∷◌, sym, ap, ◌∙◌, append_assoc}
use Rattle.sarif_prepare.specs.Internal.Limiting.{put_draft, put_drafts}
use Rattle.sarif_prepare.proofs.Limits.{put_none}
use Rattle.sarif_prepare.proofs.changes.change_drafts.Goals as goal

pub loop-draft-preserved : goal.loop-draft-preserved
loop-draft-preserved c =
    let l = c.loop-draft in
    let one = c.in-Some.draft in
    let left = c.next.new.self.rest.items in
    let step : l.draft-iterator.rest.items ≡ one ∷ left = search rules in
    let none : l.again.rest.items ≡ [] = search rules in
    let after : c.next-in-loop-draft.new.self.rest.items ≡ [] = search rules in
    let pushed : c.push-in-None-next.new.self.items ≡ l.changed.items ++ one ∷ [] = search rules in
    record {
      parts = l.invariant.parts ∙ ap (λ xs. l.yielded ++ xs) step ∙ sym (append_assoc l.yielded (one ∷ []) left);
      changed =
          ap (λ ys. c.push-in-None-next.new.self.items ++ put_drafts left ys) after
          ∙ ap (λ zs. c.push-in-None-next.new.self.items ++ zs) (put_none put_draft left)
          ∙ ap (λ xs. xs ++ left) pushed
          ∙ append_assoc l.changed.items (one ∷ []) left
          ∙ sym (ap (λ ys. l.changed.items ++ put_drafts (one ∷ left) ys) none)
          ∙ sym (ap (λ xs. l.changed.items ++ put_drafts xs l.again.rest.items) step)
          ∙ l.invariant.changed;
    }
