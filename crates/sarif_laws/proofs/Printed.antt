-- The text of a value, each value on its line, has the tokens of the value.
use Rattle.std.proofs.Common.{◌≡◌, ℕ, zero, suc, ◌*◌, Bool, true, false, List, [], ◌∷◌, ◌++◌, map, replicate, refl, sym, ap, ◌∙◌, append_assoc, inl, inr, subst}
use Rattle.json.specs.Token.{Token, begin_object, end_object, begin_array, end_array, key, string, number, boolean, null, bad}
use Rattle.json.specs.Lex.{tokens}
use Rattle.json.specs.Layout.{Last, nothing, bracket, name, value, depth_at, gap, is_value, piece, pretty, pretty_from, step}
use Rattle.json.specs.Print.{ArePrintable, begins, ends, separator, token_text}
use Rattle.json.specs.Spaced.{AreGaps, IsGap, print_spaced}
use Rattle.json.proofs.Printed.Tokens.{tokens-print_spaced}

-- each token with the gap before it
abbrev spaced : Last × ℕ → List Token → List (List ℕ × Token)
spaced s [] = []
spaced s (t ∷ ts) = (gap s.0 (begins t) (depth_at s.1 t), t) ∷ spaced (step s t) ts

spaced_tokens : (s : Last × ℕ) (ts : List Token) → map (λ p. p.1) (spaced s ts) ≡ ts
spaced_tokens s [] = refl
spaced_tokens s (t ∷ ts) = ap (λ l. t ∷ l) (spaced_tokens (step s t) ts)

blanks : (n : ℕ) → IsGap (replicate n 32)
blanks zero = tt
blanks (suc n) = (inl refl, blanks n)

gap_is : (last : Last) (opens : Bool) (depth : ℕ) → IsGap (gap last opens depth)
gap_is nothing opens depth = tt
gap_is bracket true depth = (inr refl, blanks (2 * depth))
gap_is bracket false depth = tt
gap_is name opens depth = (inl refl, tt)
gap_is value opens depth = (inr refl, blanks (2 * depth))

gaps_are : (s : Last × ℕ) (ts : List Token) → AreGaps (spaced s ts)
gaps_are s [] = tt
gaps_are s (t ∷ ts) = (gap_is s.0 (begins t) (depth_at s.1 t), gaps_are (step s t) ts)

-- whether a value ends with a token
ends_value : (s : Last × ℕ) (t : Token) → is_value (step s t).0 ≡ ends t
ends_value s begin_object = refl
ends_value s end_object = refl
ends_value s begin_array = refl
ends_value s end_array = refl
ends_value s (key k) = refl
ends_value s (string k) = refl
ends_value s (number k) = refl
ends_value s (boolean b) = refl
ends_value s null = refl
ends_value s bad = refl

joined : (a b c d : List ℕ) → (a ++ (b ++ c)) ++ d ≡ a ++ (b ++ (c ++ d))
joined a b c d = append_assoc a (b ++ c) d ∙ ap (λ l. a ++ l) (append_assoc b c d)

pretty_spaced : (s : Last × ℕ) (ts : List Token) → pretty_from s ts ≡ print_spaced (is_value s.0) (spaced s ts)
unfolding pretty_from print_spaced
pretty_spaced s [] = refl
pretty_spaced s (t ∷ ts) =
    ap (λ l. piece s t ++ l) (pretty_spaced (step s t) ts ∙ ap (λ b. print_spaced b (spaced (step s t) ts)) (ends_value s t))
    ∙ joined (separator (is_value s.0) t) (gap s.0 (begins t) (depth_at s.1 t)) (token_text t) (print_spaced (ends t) (spaced (step s t) ts))

pub pretty_tokens : (ts : List Token) → ArePrintable ts → tokens (pretty ts) ≡ ts
pretty_tokens ts can =
    ap tokens (pretty_spaced (nothing, 0) ts)
    ∙ tokens-print_spaced (spaced (nothing, 0) ts) (gaps_are (nothing, 0) ts) (subst ArePrintable (sym (spaced_tokens (nothing, 0) ts)) can)
    ∙ spaced_tokens (nothing, 0) ts
