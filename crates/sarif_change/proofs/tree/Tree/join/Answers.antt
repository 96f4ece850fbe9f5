use Rattle.std.proofs.Common.{rules, ◌≡◌, ◌∙◌, ◌||◌, ◌++◌, ℕ, true, ap, subst, length}
use Rattle.std.specs.List.{list_any, list_all}
use Rattle.sarif_change.specs.Internal.Keys.{opens}
use Rattle.sarif_change.specs.Internal.Files.{changed_at}
use Rattle.sarif_change.specs.Internal.NextBytes.{is_next}
use Rattle.sarif_change.proofs.NextMore.{all_next}
use Rattle.sarif_change.proofs.TreeMore.{all_open, any_in_both}
use Rattle.sarif_change.proofs.tree.Tree.join.Goals as goal

pub invariant_of-result : goal.invariant_of-result
invariant_of-result c =
    let left : c.in_ok-left.left.value ≡ c.args.left = search rules in
    let right : c.in_ok-right.right.value ≡ c.args.right = search rules in
    let at_end : c.len-at.result ≡ length c.in_ok-beginning.beginning.items = search rules in
    rw (left, right) (
      c.requires.left,
      c.requires.right,
      record {
        beginning =
            all_open c.args.left c.args.right c.beginning.result.now c.beginning-2.result.now c.in_ok-beginning.beginning.items
            c.beginning.ensures c.beginning-2.ensures
            (ap (λ b. opens c.beginning.result.now b) c.in_ok-beginning.ensures.items ∙ c.beginning_of.ensures.first)
            (ap (λ b. opens c.beginning-2.result.now b) c.in_ok-beginning.ensures.items ∙ c.beginning_of.ensures.second);
        next =
            subst
            (λ (n : ℕ). list_all (λ file. is_next c.both-next.result n file.key.items) (c.args.left ++ c.args.right) ≡ true) at_end
            (all_next c.args.left c.args.right c.next_bytes.result c.next_bytes-2.result c.both-next.result c.len-at.result
            c.next_bytes.ensures c.next_bytes-2.ensures c.both-next.ensures.first c.both-next.ensures.second);
        changed = λ lines. c.in_ok-changed.ensures lines
            ∙ (ap (λ b. b || changed_at lines c.changed-2.result.now) (c.changed.ensures lines)
            ∙ (ap (λ b. list_any (λ file. changed_at lines file.changed) c.args.left || b) (c.changed-2.ensures lines)
            ∙ any_in_both (λ file. changed_at lines file.changed) c.args.left c.args.right));
      },
    )
