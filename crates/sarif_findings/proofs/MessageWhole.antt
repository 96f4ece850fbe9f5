-- A message in which nothing is filled in.
use Rattle.std.proofs.Common.{◌≡◌, ◌<◌, ◌==◌, ℕ, Bool, true, false, List, [], ◌∷◌, chars, IsUtf8, refl, sym, ap, ◌∙◌, arith}
use Rattle.std.specs.Prelude.{encode_utf8_all}
use Rattle.std.specs.Bool.{OnTrue}
use Rattle.std.specs.List.{list_all}
use Rattle.std.proofs.lemmas.Bool.Decides.{nat_tests}
use Rattle.std.proofs.lemmas.Str.{encodes-chars}
use Rattle.serde_json.specs.Data.{Data}
use Rattle.sarif_findings.specs.Placeholders.{is_unbraced, filled_from, filled}
use Rattle.sarif_findings.proofs.BytesOf.{first_passes}

brace_low : (c : ℕ) → is_unbraced c ≡ false → c < 128
brace_low c h = grind (arith, nat_tests, h)

not_opening : (c : ℕ) → is_unbraced c ≡ true → (c == 123) ≡ false
not_opening c h = grind (arith, nat_tests, h)

not_closing : (c : ℕ) → is_unbraced c ≡ true → (c == 125) ≡ false
not_closing c h = grind (arith, nat_tests, h)

char_stays : (args : List Data) (c : ℕ) (cs : List ℕ) → is_unbraced c ≡ true → filled_from args 0 (c ∷ cs) ≡ c ∷ filled_from args 0 cs
char_stays args c cs h = rw (not_opening c h, not_closing c h) refl

chars_stay : (args : List Data) (cs : List ℕ) → list_all is_unbraced (encode_utf8_all cs) ≡ true → filled_from args 0 cs ≡ cs
chars_stay args [] h = refl
chars_stay args (c ∷ cs) h =
    let parts = first_passes is_unbraced brace_low c cs h in
    char_stays args c cs parts.0 ∙ ap (λ ds. c ∷ ds) (chars_stay args cs parts.1)

filled_stays : (args : List Data) (cs : List ℕ) → list_all is_unbraced (encode_utf8_all cs) ≡ true → filled args cs ≡ cs
filled_stays [] cs h = refl
filled_stays (d ∷ ds) cs h = chars_stay (d ∷ ds) cs h

pub text_stays : (args : List Data) (text : List ℕ) → IsUtf8 text → list_all is_unbraced text ≡ true → filled args (chars text) ≡ chars text
text_stays args text utf8 h = filled_stays args (chars text) (ap (list_all is_unbraced) (encodes-chars text utf8) ∙ h)

pub stays_if : (b : Bool) (text : List ℕ) → IsUtf8 text → b ≡ list_all is_unbraced text
    → OnTrue b ((args : List Data) → filled args (chars text) ≡ chars text)
stays_if true text utf8 e = λ args. text_stays args text utf8 (sym e)
stays_if false text utf8 e = tt
