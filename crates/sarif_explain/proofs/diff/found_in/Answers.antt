use Rattle.std.proofs.Common.{◌≡◌, ◌∙◌, sym, ap, chars, string_bytes}
use Rattle.std.proofs.lemmas.Result.{IfOk-weaker}
use Rattle.sarif_explain.specs.Internal.Diff.{found_in}
use Rattle.sarif_explain.specs.Internal.Lines.{most_of_a_value, shortened}
use Rattle.sarif_explain.proofs.DiffMore.{found_bytes, found_text}
use Rattle.sarif_explain.proofs.diff.found_in.Goals as goal

pub returns-in-Ok : goal.returns-in-Ok
returns-in-Ok c =
    let line = c.args.line.now in
    let cases = c.in-Ok.ensures.cases in
    IfOk-weaker c.shorten.result _ (λ s. string_bytes s ≡ found_in line)
    (λ s is. is ∙ ap (λ text. shortened most_of_a_value (chars text)) cases.0
    ∙ sym (found_text line c.is_empty.result cases.1 c.is_empty.ensures c.if-is_empty.false)) c.shorten.ensures

pub returns-in-Err : goal.returns-in-Err
returns-in-Err c =
    let line = c.args.line.now in
    IfOk-weaker c.from_str-in-Err.result _ (λ s. string_bytes s ≡ found_in line)
    (λ s is. is ∙ sym (found_bytes line c.is_empty.result c.in-Err.ensures.cases.0 c.is_empty.ensures c.if-is_empty.false)) c.from_str-in-Err.ensures.ok
