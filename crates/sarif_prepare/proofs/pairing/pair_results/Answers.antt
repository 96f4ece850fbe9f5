use Rattle.std.proofs.Common.{length, ap, ◌∙◌}
use Rattle.sarif_log.proofs.Sides.{taken_long}
use Rattle.sarif_prepare.proofs.pairing.pair_results.Goals as goal

pub left_drafts-requires-clause-baselines : goal.left_drafts-requires-clause-baselines
left_drafts-requires-clause-baselines g c κs within = (c.requires.before.0, c.requires.before.1)

pub left_drafts-requires-clause-taken : goal.left_drafts-requires-clause-taken
left_drafts-requires-clause-taken g c κs within =
    ap length (c.deref-2.ensures.value ∙ c.in_ok-standings.ensures.taken)
    ∙ taken_long c.args.options.now.checks.matching c.args.records.now c.deref.result.now
    ∙ ap length c.deref.ensures.value
