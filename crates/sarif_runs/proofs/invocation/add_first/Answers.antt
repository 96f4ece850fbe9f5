use Rattle.std.proofs.Common.{rules}
use Rattle.std.specs.HashMap.{get}
use Rattle.sarif_runs.specs.Overrides.{is_same_descriptor}
use Rattle.sarif_runs.proofs.FirstPlaces.{kept_first}
use Rattle.sarif_runs.proofs.invocation.add_first.Goals as goal

pub returns-in_ok-insert : goal.returns-in_ok-insert
returns-in_ok-insert c =
    kept_first (get is_same_descriptor c.args.table.now)
    (get is_same_descriptor c.insert.new.self) c.args.descriptor c.args.place c.in_ok-insert.ensures.updates.0 (search rules)
