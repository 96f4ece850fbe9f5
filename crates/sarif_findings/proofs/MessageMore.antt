-- Placeholders, character by character.
use Rattle.std.proofs.Common.{◌≡◌, ◌==◌, ℕ, zero, suc, ◌+◌, ◌-◌, ◌*◌, ◌<◌, ◌≤◌, true, false, List, [], ◌∷◌, ◌++◌, map, length, Some, None, chars, encode_utf8, IsUtf8, ap, sym, ◌∙◌, refl, append_assoc, ne_eqb, arith}
use Rattle.std.proofs.lemmas.Str.{chars_past_char}
use Rattle.std.proofs.StrCases.{chars_of_empty}
use Rattle.serde_json.specs.Data.{Data}
use Rattle.sarif_findings.specs.Placeholders.{index_from, takes_digit, least_of_nine_digits, filled, filled_from, piece_of}
use Rattle.sarif_findings.specs.declared.shown_text.ShownText.{ShownText}
use Rattle.sarif_findings.specs.Internal.ShownSoFar.{shown_with, TakesCharacters}

-- ---- the number of an argument

pub closing_none : (n k c : ℕ) (cs : List ℕ) → c ≡ 125 → k ≡ 0 → index_from n k (c ∷ cs) ≡ None
closing_none n k c cs brace none = rw (brace, none)

pub closing_some : (n k c : ℕ) (cs : List ℕ) → c ≡ 125 → (k ≡ 0 → ⊥) → index_from n k (c ∷ cs) ≡ Some (n, k)
closing_some n k c cs brace some = rw (brace, ne_eqb k 0 some)

pub digit_goes_on : (n k c : ℕ) (cs : List ℕ) → (c ≡ 125 → ⊥) → takes_digit n k c ≡ true
    → index_from n k (c ∷ cs) ≡ index_from (n * 10 + (c - 48)) (k + 1) cs
digit_goes_on n k c cs other digit = rw (ne_eqb c 125 other, digit)

pub other_stops : (n k c : ℕ) (cs : List ℕ) → (c ≡ 125 → ⊥) → takes_digit n k c ≡ false → index_from n k (c ∷ cs) ≡ None
other_stops n k c cs other digit = rw (ne_eqb c 125 other, digit)

pub number_small : (n c : ℕ) → n < least_of_nine_digits → c ≤ 57 → n * 10 + (c - 48) < 1000000000
number_small n c room digit = omega arith

pub count_small : (n k : ℕ) → n < 1000000000 → k ≤ n + 1 → k ≤ 1000000000
count_small n k small few = omega arith

pub count_few : (n k c : ℕ) → k ≤ n + 1 → (0 < k → 0 < n) → k + 1 ≤ n * 10 + (c - 48) + 1
count_few zero zero c few some = omega arith
count_few zero (suc k) c few some = let wrong : 0 < 0 = some (omega arith) in absurd (omega arith)
count_few (suc n) k c few some = omega arith

-- the first character of a string
pub index_step : (n k : ℕ) (text rest : List ℕ) (c : ℕ) → IsUtf8 text → text ≡ encode_utf8 c ++ rest
    → index_from n k (chars text) ≡ index_from n k (c ∷ chars rest)
index_step n k text rest c utf8 parts = ap (index_from n k) (chars_past_char text rest c utf8 parts)

pub index_empty : (n k : ℕ) (text : List ℕ) → length text ≡ 0 → index_from n k (chars text) ≡ None
index_empty n k text none = ap (index_from n k) (chars_of_empty text none)

-- ---- the whole text

pub filled-some : (args : List Data) (cs : List ℕ) → (length args ≡ 0 → ⊥) → filled args cs ≡ filled_from args 0 cs
filled-some [] cs some = absurd (some refl)
filled-some (d ∷ ds) cs some = refl

-- a character that is part of what was read already
pub skip_step : (s : ShownText) (args : List Data) (skip : ℕ) (cs ds : List ℕ) (c : ℕ) (more : List ℕ)
    → cs ≡ c ∷ ds → (skip ≡ 0 → ⊥)
    → shown_with s (filled_from args skip cs ++ more) ≡ shown_with s (filled_from args (skip - 1) ds ++ more)
skip_step s args skip cs ds c more parts some =
    let less : skip ≡ suc (skip - 1) = omega (arith, some) in
    ap (λ es. shown_with s (filled_from args skip es ++ more)) parts
    ∙ ap (λ n. shown_with s (filled_from args n (c ∷ ds) ++ more)) less

-- a character that is written for
pub piece_step : (s t : ShownText) (args : List Data) (skip next : ℕ) (cs ds : List ℕ) (c : ℕ) (more : List ℕ)
    → cs ≡ c ∷ ds → skip ≡ 0 → next ≡ (piece_of args c ds).1
    → TakesCharacters s t (piece_of args c ds).0
    → shown_with s (filled_from args skip cs ++ more) ≡ shown_with t (filled_from args next ds ++ more)
piece_step s t args skip next cs ds c more parts none is_next takes =
    let piece : List ℕ = (piece_of args c ds).0 in
    let left : List ℕ = filled_from args (piece_of args c ds).1 ds in
    ap (λ es. shown_with s (filled_from args skip es ++ more)) parts
    ∙ ap (λ n. shown_with s (filled_from args n (c ∷ ds) ++ more)) none
    ∙ ap (shown_with s) (append_assoc piece left more)
    ∙ takes (left ++ more)
    ∙ ap (λ n. shown_with t (filled_from args n ds ++ more)) (sym is_next)

none_filled : (args : List Data) (skip : ℕ) → filled_from args skip [] ≡ []
none_filled args zero = refl
none_filled args (suc n) = refl

pub filled_empty : (s : ShownText) (args : List Data) (skip : ℕ) (cs more : List ℕ) → cs ≡ []
    → shown_with s (filled_from args skip cs ++ more) ≡ shown_with s more
filled_empty s args skip cs more none =
    ap (λ es. shown_with s (filled_from args skip es ++ more)) none ∙ ap (λ es. shown_with s (es ++ more)) (none_filled args skip)

-- what was filled in, where there are arguments
pub takes_filled : (s t : ShownText) (args : List Data) (cs : List ℕ) → (length args ≡ 0 → ⊥)
    → TakesCharacters s t (filled_from args 0 cs) → TakesCharacters s t (filled args cs)
takes_filled s t args cs some takes = λ rest. ap (λ ds. shown_with s (ds ++ rest)) (filled-some args cs some) ∙ takes rest

filled-none : (args : List Data) (cs : List ℕ) → length args ≡ 0 → filled args cs ≡ cs
filled-none [] cs none = refl
filled-none (d ∷ ds) cs none = absurd (omega (arith, none))

-- what was read, if there are no arguments
pub takes_unlinked : (s t : ShownText) (args : List Data) (cs : List ℕ) → length args ≡ 0 → TakesCharacters s t cs → TakesCharacters s t (filled args cs)
takes_unlinked s t args cs none takes = λ rest. ap (λ ds. shown_with s (ds ++ rest)) (filled-none args cs none) ∙ takes rest

-- a string that is read as itself
pub takes_plain : (s t : ShownText) (cs ds : List ℕ) → ds ≡ cs → TakesCharacters s t cs → TakesCharacters s t ds
takes_plain s t cs ds same takes = λ rest. ap (λ es. shown_with s (es ++ rest)) same ∙ takes rest

pub mapped_none : {A B : Type 0} → (f : A → B) → (xs : List A) → length xs ≡ 0 → length (map f xs) ≡ 0
mapped_none f [] none = refl
mapped_none f (x ∷ xs) none = absurd (omega (arith, none))

pub not_zero : (n : ℕ) → false ≡ (n == 0) → n ≡ 0 → ⊥
not_zero n tested none = let wrong : false ≡ true = tested ∙ ap (λ k. k == 0) none in cc

pub mapped_some : {A B : Type 0} → (f : A → B) → (xs : List A) → (length xs ≡ 0 → ⊥) → length (map f xs) ≡ 0 → ⊥
mapped_some f [] some none = some refl
mapped_some f (x ∷ xs) some none = omega arith
