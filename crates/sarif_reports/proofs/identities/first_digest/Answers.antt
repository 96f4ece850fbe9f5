use Rattle.std.proofs.Common.{rules, ◌≡◌, ◌++◌, ◌∷◌, [], arith}
use Rattle.sha2.specs.Sha256.{sha256}
use Rattle.std.proofs.lemmas.Fmt.{decimal_digit}
use Rattle.sarif_reports.proofs.identities.first_digest.Goals as goal

pub returns : goal.returns
returns c =
    let told : c.finalize.result ≡ sha256 (c.args.identity.now ++ 44 ∷ 48 ∷ 93 ∷ []) = search rules in
    rw (decimal_digit 0 (omega arith)) told
