use Rattle.std.proofs.Common.{rules, ◌≡◌, ◌<◌, Some, length}
use Rattle.std.specs.HashMap.{get}
use Rattle.sarif_match.specs.declared.numbers.Value.TheVariants as value
use Rattle.sarif_match.specs.Internal.Numbers.{lent, members_as, same_value}
use Rattle.sarif_match.proofs.NumberLemmas.{short_of_members}
use Rattle.sarif_evidence.proofs.EqualLemmas.{pairs_refl}
use Rattle.sarif_match.proofs.shortening.short_members.Goals as goal

pub returns-clause-short : goal.returns-clause-short
returns-clause-short g c =
    let members = c.args.members.now in
    let number = c.in_ok-number.number in
    let some : 0 < length members = search rules in
    let made : c.push.new.self ≡ members_as number = search rules in
    let has : get same_value c.number_of.new.numbers (value.Members (lent members)) ≡ Some number =
    c.in_ok-number.ensures.has (value.Members (lent members)) (pairs_refl members) in
    short_of_members c.number_of.new.numbers members number some has c.push.new.self made
