-- The first character of a string that is read.
use Rattle.std.proofs.Common.{◌≡◌, ℕ, List, ◌∷◌, ◌++◌, chars, encode_utf8, IsUtf8, sym, ap, ◌∙◌}
use Rattle.std.proofs.lemmas.Str.{chars_past_char}

-- a fact about the string, by its first character and the others
pub first_step : {X : Type 0} (F : List ℕ → X) (text rest : List ℕ) (c : ℕ) → IsUtf8 text → text ≡ encode_utf8 c ++ rest
    → F (c ∷ chars rest) ≡ F (chars text)
first_step F text rest c utf8 parts = sym (ap F (chars_past_char text rest c utf8 parts))

-- a fact about the string, if the first character is the expected one
pub first_same : {X : Type 0} (F G : List ℕ → X) (n : ℕ) (text rest : List ℕ) (c : ℕ) (x : X) → ((cs : List ℕ) → F (n ∷ cs) ≡ G cs)
    → IsUtf8 text → text ≡ encode_utf8 c ++ rest → c ≡ n → x ≡ G (chars rest) → x ≡ F (chars text)
first_same F G n text rest c x opens utf8 parts same told =
    told ∙ sym (opens (chars rest)) ∙ sym (ap (λ d. F (d ∷ chars rest)) same) ∙ first_step F text rest c utf8 parts
