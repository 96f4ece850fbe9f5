-- A path, and the `./` that it begins with.
use Rattle.std.proofs.Common.{◌≡◌, ℕ, Bool, true, false, List, ◌∷◌, ◌++◌, length, chars, encode_utf8, IsUtf8, sym, ap, refl, ◌∙◌, if◌then◌else◌}
use Rattle.std.proofs.StrCases.{chars_of_empty}
use Rattle.std.proofs.lemmas.Str.{chars_past_char}
use Rattle.sarif_findings.specs.PathOf.{begins_here, is_removed, after_here, without_here}

-- ---- `./`

-- `front` leaves all characters if `test` is false for the first one, and otherwise what `after_here` leaves of the rest
module _ (test : ℕ → List ℕ → Bool) (front : List ℕ → List ℕ)
    (is : (c : ℕ) (cs : List ℕ) → front (c ∷ cs) ≡ (if test c cs then after_here cs else c ∷ cs)) where
  pub step : (text rest : List ℕ) (c : ℕ) → IsUtf8 text → text ≡ encode_utf8 c ++ rest → test c (chars rest) ≡ true
      → after_here (chars rest) ≡ front (chars text)
  step text rest c utf8 parts e =
      sym (ap front (chars_past_char text rest c utf8 parts) ∙ is c (chars rest) ∙ ap (λ b. if b then after_here (chars rest) else c ∷ chars rest) e)

  pub stop : (text rest : List ℕ) (c : ℕ) → IsUtf8 text → text ≡ encode_utf8 c ++ rest → test c (chars rest) ≡ false
      → chars text ≡ front (chars text)
  stop text rest c utf8 parts e =
      let past = chars_past_char text rest c utf8 parts in
      past ∙ sym (ap front past ∙ is c (chars rest) ∙ ap (λ b. if b then after_here (chars rest) else c ∷ chars rest) e)

-- a character that is removed
pub removed_step : (text rest : List ℕ) (c : ℕ) → IsUtf8 text → text ≡ encode_utf8 c ++ rest → is_removed c (chars rest) ≡ true
    → after_here (chars rest) ≡ after_here (chars text)
removed_step = step is_removed after_here (λ c cs. refl)

-- the first that stays
pub removed_stop : (text rest : List ℕ) (c : ℕ) → IsUtf8 text → text ≡ encode_utf8 c ++ rest → is_removed c (chars rest) ≡ false
    → chars text ≡ after_here (chars text)
removed_stop = stop is_removed after_here (λ c cs. refl)

pub removed_end : (text : List ℕ) → length text ≡ 0 → chars text ≡ after_here (chars text)
removed_end text none = chars_of_empty text none ∙ sym (ap after_here (chars_of_empty text none))

pub here_step : (text rest : List ℕ) (c : ℕ) → IsUtf8 text → text ≡ encode_utf8 c ++ rest → begins_here c (chars rest) ≡ true
    → after_here (chars rest) ≡ without_here (chars text)
here_step = step begins_here without_here (λ c cs. refl)

pub here_stop : (text rest : List ℕ) (c : ℕ) → IsUtf8 text → text ≡ encode_utf8 c ++ rest → begins_here c (chars rest) ≡ false
    → chars text ≡ without_here (chars text)
here_stop = stop begins_here without_here (λ c cs. refl)
