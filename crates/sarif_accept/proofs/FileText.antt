-- The text of a file is read as its value.
use Rattle.std.proofs.Common.{◌≡◌, ℕ, true, false, List, [], ◌∷◌, ◌++◌, Some, refl, sym, ap, ◌∙◌}
use Rattle.std.specs.Str.{is_utf8, IsUtf8}
use Rattle.std.proofs.lemmas.Str.{is_utf8-from_IsUtf8, IsUtf8-append}
use Rattle.json.specs.Lex.{tokens}
use Rattle.json.specs.Layout.{pretty, pretty_from}
use Rattle.json.proofs.Printed.Utf8.{IsUtf8-are_ascii}
use Rattle.serde_json.specs.Data.{Data, object, Members}
use Rattle.serde_json.specs.Read.{read}
use Rattle.json.specs.Json as json
use Rattle.json.specs.Tree.{json_tokens}
use Rattle.serde_json.specs.Written.{has_float, outline, blank, IsInOrder}
use Rattle.serde_json.proofs.Texts.{tokens_from_order}
use Rattle.json_parts.specs.Indexed.{json_of}
use Rattle.json_parts.specs.Mark.{without_mark}
use Rattle.sarif_accept.specs.NewFile.{file_text}
use Rattle.sarif_accept.proofs.Newline.{read_line}

is_text : (b : List ℕ) (d : Data) → has_float d ≡ false → b ≡ pretty (tokens b) → IsInOrder b d → b ≡ pretty (json_tokens (outline d))
is_text b d whole layout order = layout ∙ ap pretty (tokens_from_order b d order whole)

pub text_is : (b : List ℕ) (d : Data) → has_float d ≡ false → b ≡ pretty (tokens b) → IsInOrder b d → b ++ 10 ∷ [] ≡ file_text d
text_is b d whole layout order = ap (λ l. l ++ 10 ∷ []) (is_text b d whole layout order)

-- the JSON of any object begins with its bracket
begins_brace : (j : json.Json) (ms : Members) → blank j ≡ outline (object ms) → (rest : List ℕ) × (pretty (json_tokens j) ≡ 123 ∷ rest)
unfolding pretty_from
begins_brace json.null ms is = let never : ⊥ = cc in absurd never
begins_brace (json.boolean b) ms is = let never : ⊥ = cc in absurd never
begins_brace (json.number s) ms is = let never : ⊥ = cc in absurd never
begins_brace (json.string s) ms is = let never : ⊥ = cc in absurd never
begins_brace (json.array js) ms is = let never : ⊥ = cc in absurd never
begins_brace (json.object js) ms is = (_, refl)

pub without_brace : (rest : List ℕ) → without_mark (123 ∷ rest) ≡ 123 ∷ rest
without_brace rest = refl

pub text_reads : (b : List ℕ) (ms : Members) → b ≡ pretty (tokens b) → IsInOrder b (object ms) → IsUtf8 b → read b ≡ Some (object ms)
    → json_of (without_mark (b ++ 10 ∷ [])) ≡ Some (object ms)
text_reads b ms layout order utf8 reads =
    let begins = begins_brace order.0 ms order.2 in
    let whole : b ≡ 123 ∷ begins.0 = layout ∙ ap pretty order.1 ∙ begins.1 in
    let bare : without_mark (b ++ 10 ∷ []) ≡ b ++ 10 ∷ [] = ap (λ l. without_mark (l ++ 10 ∷ [])) whole
    ∙ without_brace (begins.0 ++ 10 ∷ []) ∙ sym (ap (λ l. l ++ 10 ∷ []) whole) in
    let valid : is_utf8 (b ++ 10 ∷ []) ≡ true = is_utf8-from_IsUtf8 (b ++ 10 ∷ []) (IsUtf8-append b (10 ∷ []) utf8 (IsUtf8-are_ascii (10 ∷ []) refl)) in
    ap json_of bare ∙ rw valid (read_line b ∙ reads)
