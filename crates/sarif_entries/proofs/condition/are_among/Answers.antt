use Rattle.std.proofs.Common.{rules, ◌≡◌, ◌+◌, drop, true, ap, ◌∙◌}
use Rattle.std.specs.List.{list_any}
use Rattle.std.proofs.lemmas.List.{drop-drop}
use Rattle.sarif_entries.specs.Condition.{is_pair}
use Rattle.sarif_entries.proofs.Among.{passed, passed_in_end}
use Rattle.sarif_entries.proofs.condition.are_among.Goals as goal
use Rattle.sarif_entries.proofs.condition.are_among.Goals.{in-Some, in_default+else-not-contains}

pub loop-pair-preserved : goal.loop-pair-preserved
loop-pair-preserved c = record {
  told = elim c.match-behind.branch [
    | in-Some w ↦
        let there : list_any (λ p. is_pair p c.pair-item.result) c.loop-pair.left.now ≡ true = search rules in
        passed_in_end c.args.wanted.now c.args.found.now c.loop-pair.left.now c.loop-pair.pair-index c.loop-pair.invariant.end.0
        c.pair-item.result c.loop-pair-test.true c.pair-item.is c.loop-pair.invariant.end.1 there ∙ c.loop-pair.invariant.told
    | in_default+else-not-contains w ↦
        let there : list_any (λ p. is_pair p c.pair-item.result) c.args.found.now ≡ true = search rules in
        passed c.args.wanted.now c.args.found.now c.loop-pair.pair-index c.pair-item.result c.loop-pair-test.true c.pair-item.is there
        ∙ c.loop-pair.invariant.told
  ];
  end = elim c.match-behind.branch [
    | in-Some w ↦
        let rest = w.in-Some.ensures.end in
        let before = c.loop-pair.invariant.end in
        (before.0 + rest.0, ap (λ l. l.now) w.left-is ∙ rest.1 ∙ ap (drop rest.0) before.1 ∙ drop-drop rest.0 before.0 c.args.found.now)
    | in_default+else-not-contains w ↦ search rules
  ];
}
