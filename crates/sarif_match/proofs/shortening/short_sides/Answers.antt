use Rattle.std.proofs.Common.{rules, ◌≡◌, []}
use Rattle.sarif_match.specs.Internal.Numbers.{AreApart, AreShort, Grows}
use Rattle.sarif_match.proofs.NumberLemmas.{none_apart, shorts_later}
use Rattle.sarif_match.proofs.ShortLemmas.{matched_alike}
use Rattle.sarif_match.proofs.shortening.short_sides.Goals as goal

pub returns : goal.returns
returns g c =
    let cs = c.args.current.now in
    let bs = c.args.baseline.now in
    let ss = c.in_ok-current.current.items in
    let ts = c.in_ok-baseline.baseline.items in
    let none = c.with_hasher-numbers.result in
    let first = c.short_records.new.numbers in
    let last = c.short_records-2.new.numbers in
    let empty : none.entries ≡ [] = search rules in
    let more : Grows none first = c.in_ok-current.ensures.grows in
    let most : Grows first last = c.in_ok-baseline.ensures.grows in
    let apart : AreApart last = most.apart (more.apart (none_apart none empty)) in
    let current : AreShort last cs ss = shorts_later first last most cs ss c.in_ok-current.ensures.short in
    let baseline : AreShort last bs ts = c.in_ok-baseline.ensures.short in
    matched_alike last apart cs bs ss ts current baseline
