use Rattle.std.proofs.Common.{rules, arith, ◌≡◌, sym}
use Rattle.std.proofs.lemmas.Grind.{common_steps}
use Rattle.std.specs.Prelude.{bytes_eq}
use Rattle.sarif_change.proofs.OnceMore.{last_is}
use Rattle.sarif_change.proofs.once.is_last.Goals as goal

pub returns-in-Some : goal.returns-in-Some
returns-in-Some c = λ holds.
    let same : c.eq.result ≡ bytes_eq c.in-Some.last.now.now c.args.part.now = first_of (search rules, grind (arith, common_steps)) in
    last_is c.args.parts.now c.in-Some.last.now c.args.part c.eq.result (sym c.in-Some.ensures.value) same holds
