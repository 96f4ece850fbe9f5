use Rattle.std.proofs.Common.{[], ◌∷◌, ◌++◌, refl, sym, ap, ◌∙◌, subst}
use Rattle.std.specs.Str.{IsUtf8}
use Rattle.std.proofs.lemmas.Str.{IsUtf8-append}
use Rattle.json.proofs.Printed.Utf8.{IsUtf8-are_ascii}
use Rattle.json_texts.proofs.Parts.{closed_more, closed_already}
use Rattle.json_texts.proofs.around.end_parts.Goals as goal

pub returns-then-not-ends-clause-text : goal.returns-then-not-ends-clause-text
returns-then-not-ends-clause-text c =
    c.into_inner-bytes.ensures.items ∙ closed_already c.args.out.before c.args.out.tokens (c.requires ∙ c.if-not-ends.true)

pub returns-then-not-ends-clause-utf8 : goal.returns-then-not-ends-clause-utf8
returns-then-not-ends-clause-utf8 c h =
    subst IsUtf8 (sym c.into_inner-bytes.ensures.items) (IsUtf8-append _ _ h c.into_inner-bytes.ensures.utf8)

pub returns-clause-text : goal.returns-clause-text
returns-clause-text c =
    c.in_ok-extend_from_slice.ensures.items ∙ ap (λ x. x ++ 44 ∷ []) c.into_inner-bytes.ensures.items
    ∙ closed_more c.args.out.before c.args.out.tokens (c.requires ∙ c.if-not-ends.false)

pub returns-clause-utf8 : goal.returns-clause-utf8
returns-clause-utf8 c h =
    subst IsUtf8 (sym (c.in_ok-extend_from_slice.ensures.items ∙ ap (λ x. x ++ 44 ∷ []) c.into_inner-bytes.ensures.items))
    (IsUtf8-append _ _ (IsUtf8-append _ _ h c.into_inner-bytes.ensures.utf8) (IsUtf8-are_ascii (44 ∷ []) refl))
