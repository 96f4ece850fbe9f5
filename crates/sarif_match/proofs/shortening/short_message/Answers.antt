use Rattle.std.proofs.Common.{None, Some}
use Rattle.sarif_match.specs.declared.numbers.Value.TheVariants as value
use Rattle.sarif_match.specs.Internal.Numbers.{lent}
use Rattle.sarif_evidence.proofs.EqualLemmas.{message_refl}
use Rattle.sarif_match.proofs.shortening.short_message.Goals as goal

pub returns-clause-short : goal.returns-clause-short
returns-clause-short g c =
    let message = c.args.message.now in
    let number = c.in_ok-number.number in (
      number,
      c.in_ok-number.ensures.has (value.Message (lent message)) (message_refl message),
      λ i. record { text = Some number; id = None; args = c.new.ensures i },
    )
