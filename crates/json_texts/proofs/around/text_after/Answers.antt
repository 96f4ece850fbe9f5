use Rattle.std.proofs.Common.{rules, ◌≡◌, [], ◌∷◌, ◌++◌, ◌-◌, length, take, string_bytes, sym, ap, ◌∙◌, subst}
use Rattle.std.specs.Str.{IsCharBoundary}
use Rattle.json_texts.specs.Internal.Parts.{parts_text}
use Rattle.json_texts.proofs.Parts.{comma_split, bracket_last}
use Rattle.json_texts.proofs.around.text_after.Goals as goal

pub truncate-requires : goal.truncate-requires
truncate-requires c =
    let ps = parts_text c.args.keeps_numbers c.args.list.now in
    let s = string_bytes c.into_string-text.result in
    let start : c.extend_from_slice.new.self.items ≡ 44 ∷ [] =
    c.in_ok-extend_from_slice.ensures.items ∙ ap (λ x. x ++ 44 ∷ []) c.in_ok-bytes.ensures.items in
    let is : s ≡ 44 ∷ ps = c.into_string-text.ensures ∙ c.in_ok-write_parts.ensures.text ∙ ap (λ x. x ++ ps) start in
    let len : c.len.result ≡ length s = search rules in
    let split = subst (λ n. IsCharBoundary s (n - 1)) (sym len) (comma_split c.args.keeps_numbers c.args.list.now s is) in
    λ _. (split.0, λ _ low high. split.1 low high)

pub returns : goal.returns
returns c =
    let ps = parts_text c.args.keeps_numbers c.args.list.now in
    let s = string_bytes c.into_string-text.result in
    let start : c.extend_from_slice.new.self.items ≡ 44 ∷ [] =
    c.in_ok-extend_from_slice.ensures.items ∙ ap (λ x. x ++ 44 ∷ []) c.in_ok-bytes.ensures.items in
    let is : s ≡ 44 ∷ ps = c.into_string-text.ensures ∙ c.in_ok-write_parts.ensures.text ∙ ap (λ x. x ++ ps) start in
    let len : c.len.result ≡ length s = search rules in
    let told : string_bytes c.push_str.new.self ≡ take (c.len.result - 1) s ++ 125 ∷ [] = search rules in
    told ∙ ap (λ n. take (n - 1) s ++ 125 ∷ []) len ∙ bracket_last c.args.keeps_numbers c.args.list.now s is
