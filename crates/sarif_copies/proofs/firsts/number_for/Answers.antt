use Rattle.std.proofs.Common.{rules, ◌≡◌, Some}
use Rattle.std.specs.HashMap.{get}
use Rattle.sarif_copies.specs.Internal.Table.{same_whole}
use Rattle.sarif_copies.proofs.Alike.{kept_key}
use Rattle.sarif_copies.proofs.firsts.number_for.Goals as goal

pub returns-in-Some-clause-kept : goal.returns-in-Some-clause-kept
returns-in-Some-clause-kept g c = λ q.
    let there : get same_whole c.args.table.now c.args.key ≡ Some c.in-Some.first.now = search rules in
    kept_key c.args.table.now c.args.key q c.in-Some.first.now there
