-- A string that is shortened, character by character.
use Rattle.std.specs.Prelude.{◌≡◌, ℕ, zero, suc, ◌-◌, List, [], ◌∷◌, ◌++◌, length, chars, codes, encode_utf8, IsUtf8}
use Rattle.std.proofs.Common.{refl, sym, ◌∙◌, ap, append_assoc, append-nil}
use Rattle.std.proofs.lemmas.Str.{chars_past_char}
use Rattle.std.proofs.StrCases.{chars_of_empty}
use Rattle.sarif_findings.proofs.ShownMore.{one_less}
use Rattle.sarif_explain.specs.Internal.Lines.{shortened}

shortened-nil : (room : ℕ) → shortened room [] ≡ []
unfolding shortened
shortened-nil zero = refl
shortened-nil (suc room) = refl

shortened-full : (c : ℕ) (cs : List ℕ) → shortened 0 (c ∷ cs) ≡ codes "..."
unfolding shortened
shortened-full c cs = refl

shortened-cons : (room c : ℕ) (cs : List ℕ) → shortened (suc room) (c ∷ cs) ≡ encode_utf8 c ++ shortened room cs
unfolding shortened
shortened-cons room c cs = refl

-- there is no room for a character
pub ends_short : (kept text left whole : List ℕ) (c room : ℕ) → IsUtf8 text → text ≡ encode_utf8 c ++ left
    → room ≡ 0 → kept ++ shortened room (chars text) ≡ whole → kept ++ codes "..." ≡ whole
ends_short kept text left whole c room utf8 parts none held =
    let e : shortened room (chars text) ≡ codes "..." = ap (λ n. shortened n (chars text)) none
    ∙ ap (shortened 0) (chars_past_char text left c utf8 parts) ∙ shortened-full c (chars left) in
    ap (λ xs. kept ++ xs) (sym e) ∙ held

-- there is
pub keeps_one : (kept text left whole : List ℕ) (c room : ℕ) → IsUtf8 text → text ≡ encode_utf8 c ++ left
    → (room ≡ 0 → ⊥) → kept ++ shortened room (chars text) ≡ whole
    → (kept ++ encode_utf8 c) ++ shortened (room - 1) (chars left) ≡ whole
keeps_one kept text left whole c room utf8 parts some held =
    let e : shortened room (chars text) ≡ encode_utf8 c ++ shortened (room - 1) (chars left) =
    ap (λ n. shortened n (chars text)) (one_less room some) ∙ ap (shortened (suc (room - 1))) (chars_past_char text left c utf8 parts)
    ∙ shortened-cons (room - 1) c (chars left) in
    append_assoc kept (encode_utf8 c) (shortened (room - 1) (chars left)) ∙ ap (λ xs. kept ++ xs) (sym e) ∙ held

-- the text is at its end
pub ends_whole : (kept text whole : List ℕ) (room : ℕ) → length text ≡ 0
    → kept ++ shortened room (chars text) ≡ whole → kept ≡ whole
ends_whole kept text whole room none held =
    let e : shortened room (chars text) ≡ [] = ap (shortened room) (chars_of_empty text none) ∙ shortened-nil room in
    sym (append-nil kept) ∙ ap (λ xs. kept ++ xs) (sym e) ∙ held
