use Rattle.std.proofs.Common.{refl}
use Rattle.sarif_match.proofs.NamedLemmas.{group_step}
use Rattle.sarif_match.proofs.named.add_finding.Goals as goal

pub loop-name-preserved : goal.loop-name-preserved
loop-name-preserved g c = λ q.
    group_step c.args.number c.args.finding.now.tool q c.as_slice-name-items.result.now c.loop-name.name-index c.loop-name-item.result _ _ _
    _ c.loop-name-item.is c.loop-name-test.true refl (c.requires q) (c.in_ok-add_key.ensures q) (c.loop-name.invariant q)
