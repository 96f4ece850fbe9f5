use Rattle.std.proofs.Common.{rules, ◌≡◌, ◌+◌, ◌<◌, ◌^◌, None, Some}
use Rattle.std.specs.Fmt.{decimal}
use Rattle.std.specs.HashMap.{get, hash_map_len}
use Rattle.sarif_match.specs.Internal.Numbers.{same_value}
use Rattle.sarif_match.proofs.NumberLemmas.{grows_one, has_number}
use Rattle.sarif_match.proofs.numbers.number_of.Goals as goal

pub returns-in-Some-clause-has : goal.returns-in-Some-clause-has
returns-in-Some-clause-has g c =
    let there : get same_value c.args.numbers.now c.args.value ≡ Some c.in_ok-clone.field-0 = search rules in
    has_number c.args.numbers.now c.args.value c.in_ok-clone.field-0 there

pub returns-clause-grows : goal.returns-clause-grows
returns-clause-grows g c =
    let new : get same_value c.args.numbers.now c.args.value ≡ None = search rules in
    let next : c.in_ok-kept.kept ≡ decimal (hash_map_len c.args.numbers.now) = search rules in
    let longer : hash_map_len c.insert.new.self ≡ hash_map_len c.args.numbers.now + 1 = search rules in
    let small : hash_map_len c.args.numbers.now < 2 ^ 64 = search rules in
    grows_one c.args.numbers.now c.insert.new.self c.args.value c.in_ok-kept.kept (c.in_ok-insert.ensures.updates.0) new longer next small
