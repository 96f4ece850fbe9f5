use Rattle.std.proofs.Common.{subst}
use Rattle.sarif_once.specs.Once.{without_copies}
use Rattle.sarif_results.specs.Internal.Judged.{placed_in}
use Rattle.sarif_prepare.specs.Internal.Together.{AreFound}
use Rattle.sarif_prepare.proofs.WovenLog.{whole_sides}
use Rattle.sarif_prepare.proofs.WrittenSides.{together}
use Rattle.sarif_prepare.proofs.once.split_sides.Goals as goal

pub split_baselines-requires-clause-judged : goal.split_baselines-requires-clause-judged
split_baselines-requires-clause-judged g c κs within = (c.args.rules.now.file.now, c.requires.baseline)

pub gather_baselines-requires : goal.gather_baselines-requires
gather_baselines-requires g c = (c.args.rules.now.file.now, (c.in_ok-rest-2.ensures c.args.rules.now.file.now c.requires.baseline).judged)

pub returns : goal.returns
returns g c =
    let file = c.args.rules.now.file.now in
    let logs = c.in_ok-rest.ensures in
    let baselines = c.in_ok-rest-2.ensures file c.requires.baseline in
    let both =
    together file c.in_ok-rest.field-0.rest c.in_ok-rest-2.field-0.rest c.in_ok-current.current c.in_ok-baselines.baselines logs.judged baselines.judged
    (c.in_ok-current.ensures file logs.judged) c.in_ok-baselines.ensures in
    record {
      whole = whole_sides file c.args.current c.args.baseline c.requires.current c.requires.baseline;
      found =
          subst (λ ps. AreFound file (without_copies (placed_in c.args.current)) ps c.in_ok-current.current c.in_ok-baselines.baselines) baselines.rest
          (subst (λ ps. AreFound file ps (placed_in c.in_ok-rest-2.field-0.rest) c.in_ok-current.current c.in_ok-baselines.baselines) logs.rest both);
      changes = logs.changes;
      current_copies = logs.copies;
      baseline_copies = baselines.copies;
    }
