-- The code of a row, character by character and line by line.
use Rattle.std.specs.Prelude.{◌≡◌, ℕ, List, ◌++◌, length, chars, encode_utf8, flat_map, IsUtf8}
use Rattle.std.proofs.Common.{sym, ap, ◌∙◌, append_assoc, append-nil}
use Rattle.std.proofs.lemmas.Str.{chars_past_char}
use Rattle.std.proofs.StrCases.{chars_of_empty}
use Rattle.sarif_page.specs.HtmlCode.{code_char}

-- one character more
pub one_coded : (kept text left whole : List ℕ) (c : ℕ) → IsUtf8 text → text ≡ encode_utf8 c ++ left
    → kept ++ flat_map code_char (chars text) ≡ whole → (kept ++ code_char c) ++ flat_map code_char (chars left) ≡ whole
one_coded kept text left whole c utf8 parts held =
    append_assoc kept (code_char c) (flat_map code_char (chars left))
    ∙ ap (λ cs. kept ++ flat_map code_char cs) (sym (chars_past_char text left c utf8 parts)) ∙ held

-- the text is at its end
pub all_coded : (kept text whole : List ℕ) → length text ≡ 0 → kept ++ flat_map code_char (chars text) ≡ whole → kept ≡ whole
all_coded kept text whole none held =
    sym (append-nil kept) ∙ ap (λ cs. kept ++ flat_map code_char cs) (sym (chars_of_empty text none)) ∙ held
