use Rattle.std.proofs.Common.{rules, ◌≡◌, ◌-◌, true, false, ◌∷◌, drop, Bor, sym, ◌∙◌}
use Rattle.sarif_model.specs.declared.text.Text.{Text}
use Rattle.sarif_request.specs.Names.{is_among}
use Rattle.sarif_request.proofs.Repeats.{had, had_not, left_from, not_repeated, one_more, repeated}
use Rattle.sarif_request.proofs.repeated.first_repeated.Goals as goal

pub loop-at-preserved-then-not-branch : goal.loop-at-preserved-then-not-branch
loop-at-preserved-then-not-branch c =
    let name = c.index-names-at.result in
    let named : Bor Text = record { ref_ptr = (0, 0); now = name } in
    let names = c.args.names.now in
    let left : drop (c.loop-at.at - 1) names ≡ name ∷ drop c.loop-at.at names =
    left_from names c.loop-at.at name (search rules) (search rules) (search rules) in
    let among : is_among name (drop c.loop-at.at names) ≡ true = sym (c.loop-at.invariant.later named)
    ∙ had _ _ c.in_ok-insert.ensures.added c.if-not-branch.true in
    record {
      later = one_more c.loop-at.later c.insert.new.self named (drop c.loop-at.at names)
          (drop (c.loop-at.at - 1) names) left c.in_ok-insert.ensures.updates c.loop-at.invariant.later;
      repeated = repeated name (drop c.loop-at.at names) (drop (c.loop-at.at - 1) names) left among;
    }

pub loop-at-preserved : goal.loop-at-preserved
loop-at-preserved c =
    let name = c.index-names-at.result in
    let named : Bor Text = record { ref_ptr = (0, 0); now = name } in
    let names = c.args.names.now in
    let left : drop (c.loop-at.at - 1) names ≡ name ∷ drop c.loop-at.at names =
    left_from names c.loop-at.at name (search rules) (search rules) (search rules) in
    let among : is_among name (drop c.loop-at.at names) ≡ false = sym (c.loop-at.invariant.later named)
    ∙ had_not _ _ c.in_ok-insert.ensures.added c.if-not-branch.false in
    record {
      later = one_more c.loop-at.later c.insert.new.self named (drop c.loop-at.at names)
          (drop (c.loop-at.at - 1) names) left c.in_ok-insert.ensures.updates c.loop-at.invariant.later;
      repeated = c.loop-at.invariant.repeated ∙ not_repeated name (drop c.loop-at.at names) (drop (c.loop-at.at - 1) names) left among;
    }
