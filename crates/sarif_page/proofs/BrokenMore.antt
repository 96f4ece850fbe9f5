-- A path or a rule with its breaks, character by character.
use Rattle.std.specs.Prelude.{◌≡◌, ℕ, Bool, List, ◌++◌, length, chars, encode_utf8, IsUtf8}
use Rattle.std.proofs.Common.{sym, ap, ◌∙◌, append_assoc, append-nil}
use Rattle.std.proofs.lemmas.Str.{chars_past_char}
use Rattle.std.proofs.StrCases.{chars_of_empty}
use Rattle.sarif_page.specs.HtmlBreaks.{broken_after, broken_char, is_small}

-- one character more
pub one_broken : (kept text left whole : List ℕ) (c : ℕ) (small : Bool) → IsUtf8 text → text ≡ encode_utf8 c ++ left
    → kept ++ broken_after small (chars text) ≡ whole → (kept ++ broken_char small c) ++ broken_after (is_small c) (chars left) ≡ whole
one_broken kept text left whole c small utf8 parts held =
    append_assoc kept (broken_char small c) (broken_after (is_small c) (chars left))
    ∙ ap (λ cs. kept ++ broken_after small cs) (sym (chars_past_char text left c utf8 parts)) ∙ held

-- the text is at its end
pub all_broken : (kept text whole : List ℕ) (small : Bool) → length text ≡ 0 → kept ++ broken_after small (chars text) ≡ whole → kept ≡ whole
all_broken kept text whole small none held =
    sym (append-nil kept) ∙ ap (λ cs. kept ++ broken_after small cs) (sym (chars_of_empty text none)) ∙ held
