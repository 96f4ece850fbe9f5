use Rattle.std.proofs.Common.{◌≡◌, [], ◌∷◌, ◌++◌, refl, sym, ap, ap₂, ◌∙◌, subst}
use Rattle.std.specs.Str.{IsUtf8}
use Rattle.std.proofs.lemmas.Str.{IsUtf8-append}
use Rattle.json.specs.Token.{key}
use Rattle.json.specs.Print.{print}
use Rattle.json.proofs.Printed.Utf8.{IsUtf8-are_ascii}
use Rattle.json_texts.specs.Internal.Parts.{parts_text}
use Rattle.json_texts.proofs.Parts.{key_after}
use Rattle.json_texts.proofs.around.text_before.Goals as goal

pub into_string-requires : goal.into_string-requires
into_string-requires c =
    let start : c.extend_from_slice.new.self.items ≡ 123 ∷ [] =
    c.in_ok-extend_from_slice.ensures.items ∙ ap (λ x. x ++ 123 ∷ []) c.in_ok-bytes.ensures.items in
    let bytes : IsUtf8 c.in_ok-bytes-2.bytes.items = c.in_ok-bytes-2.ensures.utf8 (subst IsUtf8 (sym start) (IsUtf8-are_ascii (123 ∷ []) refl)) in
    let before : IsUtf8 c.key.new.self.before = subst IsUtf8 (sym (c.in_ok-key.ensures.room.0 ∙ c.new-out.ensures.before)) bytes in
    subst IsUtf8 (sym c.into_inner.ensures.items) (IsUtf8-append _ _ before c.into_inner.ensures.utf8)

pub returns : goal.returns
returns c =
    let ps = parts_text c.args.keeps_numbers c.args.list.now in
    let start : c.extend_from_slice.new.self.items ≡ 123 ∷ [] =
    c.in_ok-extend_from_slice.ensures.items ∙ ap (λ x. x ++ 123 ∷ []) c.in_ok-bytes.ensures.items in
    let before : c.key.new.self.before ≡ 123 ∷ ps =
    c.in_ok-key.ensures.room.0 ∙ c.new-out.ensures.before ∙ c.in_ok-bytes-2.ensures.text ∙ ap (λ x. x ++ ps) start in
    let tokens : c.key.new.self.tokens ≡ [] ++ key c.args.name.now ∷ [] =
    c.in_ok-key.ensures.ok ∙ ap (λ ts. ts ++ key c.args.name.now ∷ []) c.new-out.ensures.tokens in
    c.into_string.ensures ∙ c.into_inner.ensures.items ∙ ap₂ (λ x y. x ++ print y) before tokens ∙ key_after (123 ∷ ps) c.args.name.now
