use Rattle.std.proofs.Common.{rules, arith, ◌≡◌, ◌<◌, length, map}
use Rattle.std.proofs.lemmas.Grind.{common_steps}
use Rattle.sarif_change.specs.Internal.Sought.{seen, all_readings}
use Rattle.sarif_change.proofs.PathsMore.{rooted_chosen, own_chosen, some_seen, none_seen}
use Rattle.sarif_change.proofs.uri.paths_of.Goals as goal

pub returns-then-not-is_empty : goal.returns-then-not-is_empty
returns-then-not-is_empty c =
    let some : 0 < length c.in_ok-paths.paths.items = first_of (search rules, grind (arith, common_steps)) in
    rooted_chosen c.args.roots.now (all_readings c.in_ok-readings.readings) c.args.uri.now (map seen c.in_ok-paths.paths.items)
    c.in_ok-readings.ensures c.in_ok-paths.ensures (some_seen c.in_ok-paths.paths.items some)

pub returns : goal.returns
returns c =
    let none : length c.in_ok-paths.paths.items ≡ 0 = first_of (search rules, grind (arith, common_steps)) in
    own_chosen c.args.roots.now (all_readings c.in_ok-readings.readings) c.args.uri.now (map seen c.in_ok-paths.paths.items) (map seen c.in_ok-own.own.items)
    c.in_ok-readings.ensures c.in_ok-paths.ensures (none_seen c.in_ok-paths.paths.items none) c.in_ok-own.ensures
