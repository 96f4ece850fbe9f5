use Rattle.std.proofs.Common.{rules, map, refl}
use Rattle.sarif_conditions.specs.Judged.{judged_of}
use Rattle.sarif_conditions.proofs.DecidingMore.{before_same, none_added}
use Rattle.sarif_conditions.proofs.deciding.Deciding.before.Goals as goal

pub returns : goal.returns
returns c =
    none_added (map judged_of c.args.results.now) _ (before_same c.args.results.now _ c.in_ok-standings.ensures) (search rules) refl
