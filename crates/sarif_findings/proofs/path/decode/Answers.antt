use Rattle.std.proofs.Common.{◌≡◌, sym, ◌∙◌, ap, subst, List, ℕ, true, IsUtf8}
use Rattle.std.specs.Str.{is_utf8}
use Rattle.std.proofs.lemmas.Bool.{false_from_ne_true}
use Rattle.std.proofs.lemmas.Str.{is_utf8-from_IsUtf8, IsUtf8-from_is_utf8}
use Rattle.percent_encoding.specs.Percent.{percent_decode}
use Rattle.sarif_findings.proofs.path.decode.Goals as goal

pub returns-in-Ok-clause-some : goal.returns-in-Ok-clause-some
returns-in-Ok-clause-some c =
    let same = c.percent_decode.ensures.bytes ∙ ap percent_decode c.as_bytes.ensures.value in
    let P : List ℕ → Type 0 = λ bs. is_utf8 bs ≡ true in
    (c.in-Ok.ensures.value ∙ same, subst P same (is_utf8-from_IsUtf8 _ c.in-Ok.ensures.ok_only_if_utf8))

pub returns-in-Err-Utf8-clause-none : goal.returns-in-Err-Utf8-clause-none
returns-in-Err-Utf8-clause-none c =
    let same = c.percent_decode.ensures.bytes ∙ ap percent_decode c.as_bytes.ensures.value in
    false_from_ne_true _ (λ text.
    let wrong = c.in-Err-Utf8.ensures.utf8 (subst IsUtf8 (sym same) (IsUtf8-from_is_utf8 _ text)) in cc wrong)
