use Rattle.std.proofs.Common.{◌∙◌}
use Rattle.sarif_match.proofs.NameLemmas.{filled_names-step}
use Rattle.sarif_match.proofs.finer_tiers.add_filled_names_of.Goals as goal

pub loop-fingerprint-preserved : goal.loop-fingerprint-preserved
loop-fingerprint-preserved c =
    filled_names-step _ _ c.args.fingerprints.now c.loop-fingerprint.fingerprint-index c.fingerprint-item.result c.fingerprint-item.is
    c.loop-fingerprint-test.true c.in_ok-add_if_filled.ensures ∙ c.loop-fingerprint.invariant
