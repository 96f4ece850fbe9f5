-- The least length of the JSON of tokens.
use Rattle.std.proofs.Common.{◌≡◌, ℕ, ◌+◌, ◌-◌, ◌^◌, min, ◌≤◌, ◌<◌, ◌/◌, ◌%◌, nat_lt, Bool, true, false, cond, List, [], ◌∷◌, ◌++◌, length, fold, refl, sym, ap, ◌∙◌, subst, arith, append_assoc, length-append}
use Rattle.std.specs.Char.{digit_char}
use Rattle.std.proofs.lemmas.Bool.Decides.{nat_tests}
use Rattle.sarif_accept.proofs.Weight.{escaped}
use Rattle.sarif_model.specs.Limits.{most_bytes}
use Rattle.sarif_known.specs.Internal.Tokens.{least_bytes, own_bytes}
use Rattle.json.specs.Token.{Token, begin_object, end_object, begin_array, end_array, key, string, number, boolean, null, bad}
use Rattle.json.specs.Print.{escape, escape_byte, escape_letter, quoted, token_text}
use Rattle.json.specs.Layout.{Last, step, piece, pretty, pretty_from, nothing}

some_bytes : (a b : Bool) (p q r : List ℕ) → 1 ≤ length p → 1 ≤ length q → 1 ≤ length r → 1 ≤ length (cond a p (cond b q r))
some_bytes true b p q r hp hq hr = hp
some_bytes false true p q r hp hq hr = hq
some_bytes false false p q r hp hq hr = hr

one_at_least : (x : ℕ) → 1 ≤ length (escape_byte x)
unfolding escape_byte
one_at_least x =
    some_bytes (nat_lt 0 (escape_letter x)) (nat_lt x 32) (92 ∷ escape_letter x ∷ [])
    (92 ∷ 117 ∷ 48 ∷ 48 ∷ digit_char (x / 16) ∷ digit_char (x % 16) ∷ []) (x ∷ [])
    (omega arith) (omega arith) (omega arith)

-- a string is shorter than its text
pub quoted_is_longer : (s : List ℕ) → length s ≤ length (quoted s)
quoted_is_longer s =
    let inner = escaped s in
    let whole : length (escape s ++ 34 ∷ []) ≡ length (escape s) + 1 = length-append (escape s) (34 ∷ []) in
    omega (arith, inner, whole)

-- a key has a colon
pub key_is_longer : (s : List ℕ) → length s ≤ length (quoted s ++ 58 ∷ [])
key_is_longer s =
    let inner = quoted_is_longer s in
    let whole : length (quoted s ++ 58 ∷ []) ≡ length (quoted s) + 1 = length-append (quoted s) (58 ∷ []) in
    omega (arith, inner, whole)

pub pretty_from-append : (s : Last × ℕ) (ts us : List Token) → pretty_from s (ts ++ us) ≡ pretty_from s ts ++ pretty_from (fold step s ts) us
unfolding pretty_from
pretty_from-append s [] us = refl
pretty_from-append s (t ∷ ts) us =
    ap (λ l. piece s t ++ l) (pretty_from-append (step s t) ts us)
    ∙ sym (append_assoc (piece s t) (pretty_from (step s t) ts) (pretty_from (fold step (step s t) ts) us))

behind_both : (a b c : List ℕ) → length c ≤ length (a ++ (b ++ c))
behind_both a b c =
    let outer = length-append a (b ++ c) in
    let inner = length-append b c in
    omega (arith, outer, inner)

own_few : (t : Token) → own_bytes t ≤ length (token_text t)
own_few begin_object = omega arith
own_few end_object = omega arith
own_few begin_array = omega arith
own_few end_array = omega arith
own_few (key s) = key_is_longer s
own_few (string s) = quoted_is_longer s
own_few (number s) = omega arith
own_few (boolean true) = omega arith
own_few (boolean false) = omega arith
own_few null = omega arith
own_few bad = omega arith

piece_few : (s : Last × ℕ) (t : Token) → own_bytes t ≤ length (piece s t)
piece_few s t =
    let own = own_few t in
    let last : length (token_text t) ≤ length (piece s t) = behind_both _ _ (token_text t) in
    omega (arith, own, last)

from_least : (s : Last × ℕ) (ts : List Token) → least_bytes ts ≤ length (pretty_from s ts)
unfolding pretty_from
from_least s [] = omega arith
from_least s (t ∷ ts) =
    let own = piece_few s t in
    let rest = from_least (step s t) ts in
    let split = length-append (piece s t) (pretty_from (step s t) ts) in
    omega (arith, own, rest, split)

-- tokens have as many bytes as their strings at least
pub long_enough : (ts : List Token) → nat_lt most_bytes (least_bytes ts) ≡ true → most_bytes < length (pretty ts)
long_enough ts long = let least = from_least (nothing, 0) ts in grind (arith, nat_tests)

pub short_enough : (ts : List Token) → nat_lt most_bytes (least_bytes ts) ≡ false → least_bytes ts ≤ most_bytes
short_enough ts short = grind (arith, nat_tests)

pushed : (ts : List Token) (t : Token) → least_bytes (ts ++ t ∷ []) ≡ least_bytes ts + own_bytes t
pushed [] t = omega arith
pushed (u ∷ ts) t = let more = pushed ts t in omega (arith, more)

-- one token more
pub one_more : (ts : List Token) (t : Token) (n : ℕ) → n ≡ min (least_bytes ts) (2 ^ 64 - 1)
    → min (n + own_bytes t) (2 ^ 64 - 1) ≡ min (least_bytes (ts ++ t ∷ [])) (2 ^ 64 - 1)
one_more ts t n is =
    let more = pushed ts t in
    omega (arith, more, is)

-- a number that stops at the greatest `usize` is past the limit if the true one is
pub capped : (n : ℕ) → nat_lt most_bytes (min n (2 ^ 64 - 1)) ≡ nat_lt most_bytes n
capped n = grind (arith, nat_tests)

-- the JSON of tokens is at least as long as that of the first of them
pub front_is_shorter : (ts us : List Token) → length (pretty ts) ≤ length (pretty (ts ++ us))
front_is_shorter ts us =
    let split : length (pretty (ts ++ us)) ≡ length (pretty ts) + length (pretty_from (fold step (nothing, 0) ts) us) =
    ap length (pretty_from-append (nothing, 0) ts us) ∙ length-append (pretty ts) (pretty_from (fold step (nothing, 0) ts) us) in
    omega (arith, split)

-- what is too long as a front is too long
pub longer : (n : ℕ) (front rest whole : List Token) → front ++ rest ≡ whole → n < length (pretty front) → n < length (pretty whole)
longer n front rest whole is long =
    let front_is = front_is_shorter front rest in
    subst (λ ts. n < length (pretty ts)) is (omega (arith, front_is, long))
