-- The number of bytes has grown by those of the token.
use Rattle.std.proofs.Common.{◌≡◌, ◌-◌, ◌^◌, min, List, sym, subst, ◌∙◌, ap, ◌+◌}
use Rattle.json.specs.Reads.{token_of}
use Rattle.json.specs.Token.{Token}
use Rattle.sarif_known.specs.Internal.Tokens.{least_bytes}
use Rattle.sarif_known.proofs.Lengths.{one_more}
use Rattle.sarif_known.proofs.lines.Lines.token.Goals as goal

pub invariant_of-self-2 : goal.invariant_of-self-2
invariant_of-self-2 c =
    let P : List Token → Type 0 = λ ts. c.saturating_add-self-inside.result ≡ min (least_bytes ts) (2 ^ 64 - 1) in
    subst P (sym c.in_ok-token.ensures.ok)
    (c.saturating_add-self-inside.ensures ∙ ap (λ n. min (c.self.inside.least + n) (2 ^ 64 - 1)) c.bytes_of-more.ensures
    ∙ one_more c.self.inside.out (token_of c.args.token) c.self.inside.least c.self.invariant)
