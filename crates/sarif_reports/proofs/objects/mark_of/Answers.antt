use Rattle.std.proofs.Common.{◌≡◌, ◌++◌, refl, sym, ap, ◌∙◌, string_bytes}
use Rattle.std.proofs.lemmas.Result.{IfOk-weaker}
use Rattle.hex.specs.Hex.{encode_lower}
use Rattle.sha2.specs.Sha256.{sha256}
use Rattle.sarif_reports.specs.GitlabReport as said
use Rattle.sarif_reports.specs.GitlabParts.{identity_of, rank_text}
use Rattle.sarif_reports.proofs.GitlabMore.{mark_is}
use Rattle.sarif_reports.proofs.objects.mark_of.Goals as goal

pub returns-then-one-eq0 : goal.returns-then-one-eq0
returns-then-one-eq0 c =
    let one = c.args.one.now in
    let hashed : one.identity.now.first ≡ sha256 (identity_of one.finding.now ++ rank_text one.rank) = ap (λ i. i.first) one.is
    ∙ ap (λ n. sha256 (identity_of one.finding.now ++ rank_text n)) (sym c.if-one-eq0.true) in
    IfOk-weaker c.encode.result (λ s. string_bytes s ≡ encode_lower one.identity.now.first) (λ s. string_bytes s ≡ said.mark_of one.finding.now one.rank)
    (λ s made. mark_is one.finding.now one.rank (identity_of one.finding.now) (string_bytes s) refl (made ∙ ap encode_lower hashed)) c.encode.ensures

pub returns : goal.returns
returns c =
    let one = c.args.one.now in
    let text : one.identity.now.text ≡ identity_of one.finding.now = ap (λ i. i.text) one.is in
    let hashed : c.as_str.result.now ≡ identity_of one.finding.now = c.as_str.ensures ∙ text in
    IfOk-weaker c.fingerprint.result (λ s. string_bytes s ≡ encode_lower (sha256 (c.as_str.result.now ++ rank_text one.rank)))
    (λ s. string_bytes s ≡ said.mark_of one.finding.now one.rank)
    (λ s made. mark_is one.finding.now one.rank c.as_str.result.now (string_bytes s) hashed made) c.fingerprint.ensures
