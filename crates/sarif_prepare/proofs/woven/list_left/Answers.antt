use Rattle.std.proofs.Common.{rules, ◌≡◌, ◌+◌, ◌++◌, ◌∷◌, [], Some, take, drop, length, sym, ap, ◌∙◌, append_assoc, arith}
use Rattle.std.specs.Prelude.{slice_index}
use Rattle.std.proofs.lemmas.List.{drop_more, length-drop}
use Rattle.sarif_prepare.specs.Internal.Apart.{left_counts, total}
use Rattle.sarif_prepare.specs.Internal.LeftParts.{left_count}
use Rattle.sarif_prepare.proofs.woven.list_left.Goals as goal

pub split_at-requires : goal.split_at-requires
split_at-requires c =
    let l = c.loop-count in
    let counts = c.args.counts.now in
    let count = slice_index counts l.count-index in
    let step : drop l.count-index counts ≡ count ∷ drop (l.count-index + 1) counts = drop_more counts l.count-index 0 c.loop-count-test.true in
    let all = sym (ap total step) ∙ l.invariant.counted in
    omega (arith, all)

pub loop-count-preserved : goal.loop-count-preserved
loop-count-preserved c =
    let l = c.loop-count in
    let counts = c.args.counts.now in
    let count = slice_index counts l.count-index in
    let others = drop (l.count-index + 1) counts in
    let step : drop l.count-index counts ≡ count ∷ others = drop_more counts l.count-index 0 c.loop-count-test.true in
    let all = sym (ap total step) ∙ l.invariant.counted in
    let later = c.split_at.result.1.now in
    let number = c.count_left.ensures.count ∙ ap left_count c.split_at.ensures.front in
    let pushed : c.push.new.self.items ≡ l.left.items ++ Some c.count_left.result ∷ [] = search rules in record {
      counted = let gone = length-drop count l.taken.now in let back = ap length c.split_at.ensures.back in omega (arith, gone, back, all);
      left =
          ap (λ ns. ns ++ left_counts others later) pushed ∙ append_assoc l.left.items (Some c.count_left.result ∷ []) (left_counts others later)
          ∙ ap (λ n. l.left.items ++ (Some n ∷ left_counts others later)) number
          ∙ ap (λ ts. l.left.items ++ (Some (left_count (take count l.taken.now)) ∷ left_counts others ts)) c.split_at.ensures.back
          ∙ sym (ap (λ ns. l.left.items ++ left_counts ns l.taken.now) step) ∙ l.invariant.left;
    }
