use Rattle.std.proofs.Common.{◌∙◌, refl}
use Rattle.sarif_match.proofs.NameLemmas.{with_names-step}
use Rattle.sarif_match.proofs.tier_list.add_names_of.Goals as goal

pub loop-name-preserved : goal.loop-name-preserved
loop-name-preserved c =
    with_names-step c.loop-name.names.keys c.insert.new.self.keys _ c.args.fingerprints.now c.loop-name.name-index c.loop-name-item.result
    c.loop-name-item.is c.loop-name-test.true refl c.in_ok-insert.ensures.keys ∙ c.loop-name.invariant
