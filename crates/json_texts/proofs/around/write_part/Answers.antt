use Rattle.std.proofs.Common.{◌≡◌, [], ◌∷◌, ◌++◌, refl, sym, ap, ap₂, ◌∙◌, subst}
use Rattle.std.specs.Str.{IsUtf8}
use Rattle.std.proofs.lemmas.Str.{IsUtf8-append}
use Rattle.json.specs.Token.{key}
use Rattle.json.specs.Print.{print, ends_value}
use Rattle.json.specs.Tree.{json_tokens}
use Rattle.json.proofs.Printed.Utf8.{IsUtf8-are_ascii}
use Rattle.json_parts.specs.Indexed.{json_at}
use Rattle.json_parts.specs.Internal.Around.{name_text}
use Rattle.json_texts.specs.Whole.{written}
use Rattle.json_texts.specs.Internal.Parts.{name_of, text_at, is_found, closed}
use Rattle.json_texts.proofs.Parts.{value_closed, value_ends, text_closed}
use Rattle.json_texts.proofs.around.write_part.Goals as goal

pub returns-in_ok-write_value-in-Found-clause-text : goal.returns-in_ok-write_value-in-Found-clause-text
returns-in_ok-write_value-in-Found-clause-text c =
    let part = c.args.part.now in
    let ts = c.args.out.tokens in
    let b = c.args.out.before in
    let keeps = c.args.keeps_numbers in
    let j = written keeps (json_at c.in-Found.member.value) in
    let done = c.in_ok-write_value-in-Found.ensures in
    let tokens : c.write_value.new.out.tokens ≡ (ts ++ key (name_of part) ∷ []) ++ json_tokens j =
    done.tokens ∙ ap (λ xs. xs ++ json_tokens j) (c.in_ok-key.ensures.ok ∙ ap (λ k. ts ++ key k ∷ []) c.name_of.ensures) in
    let before : c.write_value.new.out.before ≡ b = done.before ∙ c.in_ok-key.ensures.room.0 in
    ap₂ closed before tokens ∙ value_closed b ts (name_of part) j
    ∙ ap (λ t. closed b ts ++ (name_text (name_of part) ++ (t ++ 44 ∷ []))) (sym (ap (text_at keeps) c.in-Found.is))

pub returns-in_ok-write_value-in-Found-clause-ends : goal.returns-in_ok-write_value-in-Found-clause-ends
returns-in_ok-write_value-in-Found-clause-ends c =
    let part = c.args.part.now in
    let ts = c.args.out.tokens in
    let j = written c.args.keeps_numbers (json_at c.in-Found.member.value) in
    let done = c.in_ok-write_value-in-Found.ensures in
    let tokens : c.write_value.new.out.tokens ≡ (ts ++ key (name_of part) ∷ []) ++ json_tokens j =
    done.tokens ∙ ap (λ xs. xs ++ json_tokens j) (c.in_ok-key.ensures.ok ∙ ap (λ k. ts ++ key k ∷ []) c.name_of.ensures) in
    ap ends_value tokens ∙ value_ends ts (name_of part) j ∙ sym (ap is_found c.in-Found.is)

pub returns-in_ok-extend_from_slice-in-Set-2-clause-text : goal.returns-in_ok-extend_from_slice-in-Set-2-clause-text
returns-in_ok-extend_from_slice-in-Set-2-clause-text c =
    let part = c.args.part.now in
    let ts = c.args.out.tokens in
    let b = c.args.out.before in
    let k = name_of part in
    let t = c.in-Set.member.text.now in
    let named = c.in_ok-key.ensures.ok ∙ ap (λ x. ts ++ key x ∷ []) c.name_of.ensures in
    let bytes = c.into_inner-bytes.ensures.items ∙ ap₂ (λ x y. x ++ print y) c.in_ok-key.ensures.room.0 named in
    let texts = c.in_ok-extend_from_slice-in-Set.ensures.items ∙ ap₂ (λ x y. x ++ y) bytes c.as_bytes.ensures.value in
    let all : c.new.result.before ≡ ((b ++ print (ts ++ key k ∷ [])) ++ t) ++ 44 ∷ [] =
    c.new.ensures.before ∙ c.in_ok-extend_from_slice-in-Set-2.ensures.items ∙ ap (λ x. x ++ 44 ∷ []) texts in
    ap₂ closed all c.new.ensures.tokens ∙ text_closed b ts k t
    ∙ ap (λ s. closed b ts ++ (name_text k ++ (s ++ 44 ∷ []))) (sym (ap (text_at c.args.keeps_numbers) c.in-Set.is))

pub returns-in_ok-extend_from_slice-in-Set-2-clause-utf8 : goal.returns-in_ok-extend_from_slice-in-Set-2-clause-utf8
returns-in_ok-extend_from_slice-in-Set-2-clause-utf8 c h =
    let before : IsUtf8 c.key.new.self.before = subst IsUtf8 (sym c.in_ok-key.ensures.room.0) h in
    let bytes = c.into_inner-bytes.ensures.items in
    let texts = c.in_ok-extend_from_slice-in-Set.ensures.items ∙ ap (λ x. x ++ c.as_bytes.result.now) bytes in
    let all : c.new.result.before ≡ ((c.key.new.self.before ++ print c.key.new.self.tokens) ++ c.as_bytes.result.now) ++ 44 ∷ [] =
    c.new.ensures.before ∙ c.in_ok-extend_from_slice-in-Set-2.ensures.items ∙ ap (λ x. x ++ 44 ∷ []) texts in
    subst IsUtf8 (sym all)
    (IsUtf8-append _ _ (IsUtf8-append _ _ (IsUtf8-append _ _ before c.into_inner-bytes.ensures.utf8) c.as_bytes.ensures.utf8)
    (IsUtf8-are_ascii (44 ∷ []) refl))
