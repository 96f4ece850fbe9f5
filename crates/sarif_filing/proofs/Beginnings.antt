-- The prefixes of a URI: what is found for them, in order.
use Rattle.std.proofs.Common.{◌≡◌, ℕ, ◌+◌, ◌<◌, ◌≤◌, List, [], ◌∷◌, ◌++◌, map, length, take, get_or, refl, sym, ap, ◌∙◌, arith}
use Rattle.std.specs.List.{flat_map}
use Rattle.std.proofs.lemmas.List.{append-nil, append_assoc, take_more, length-take-le}
use Rattle.std.proofs.lemmas.List.Sums.{fold-append}
use Rattle.std.proofs.lemmas.Grind.{flat_map-append}
use Rattle.sarif_filing.specs.declared.prefixes.PrefixTable.{PrefixTable}
use Rattle.sarif_filing.specs.Internal.Prefixes.{beginnings, next_hash, hash_of, found_with, found_under}

-- the hash of the bytes so far, with one more byte
pub hash_step : (base hash next : ℕ) (text : List ℕ) (i d : ℕ) → i < length text → hash ≡ hash_of base (take i text)
    → next ≡ next_hash base hash (get_or text i d) → next ≡ hash_of base (take (i + 1) text)
hash_step base hash next text i d within so_far is =
    rw (take_more text i d within, fold-append, is, so_far) refl

map-append : {A B : Type 0} (f : A → B) (xs ys : List A) → map f (xs ++ ys) ≡ map f xs ++ map f ys
map-append f [] ys = refl
map-append f (x ∷ xs) ys = ap (λ zs. f x ∷ zs) (map-append f xs ys)

-- a string with one more byte has one more prefix: itself
one_longer : (text : List ℕ) (b : ℕ) → beginnings (text ++ b ∷ []) ≡ beginnings text ++ (text ++ b ∷ []) ∷ []
one_longer [] b = refl
one_longer (c ∷ text) b =
    ap (λ ts. [] ∷ map (λ front. c ∷ front) ts) (one_longer text b)
    ∙ ap (λ ts. [] ∷ ts) (map-append (λ front. c ∷ front) (beginnings text) ((text ++ b ∷ []) ∷ []))

more_beginnings : (text : List ℕ) (i d : ℕ) → i < length text → beginnings (take (i + 1) text) ≡ beginnings (take i text) ++ take (i + 1) text ∷ []
more_beginnings text i d within =
    rw (take_more text i d within) (one_longer (take i text) (get_or text i d))

-- what is found for the beginnings gone through, with one more
pub found_step : {S H : Type 0} (table : PrefixTable S H) (start old new text : List ℕ) (i next d : ℕ) → i < length text
    → next ≡ hash_of table.base (take (i + 1) text) → old ≡ start ++ flat_map (found_under table) (beginnings (take i text))
    → new ≡ old ++ found_with table (i + 1) next → new ≡ start ++ flat_map (found_under table) (beginnings (take (i + 1) text))
found_step table start old new text i next d within hash so_far added =
    let long : i + 1 ≤ length text = omega (arith, within) in
    let here : found_with table (i + 1) next ≡ found_under table (take (i + 1) text) = rw (length-take-le (i + 1) text long, hash) refl in
    let last : flat_map (found_under table) (take (i + 1) text ∷ []) ≡ found_under table (take (i + 1) text) =
    append-nil (found_under table (take (i + 1) text)) in
    added
    ∙ rw (so_far, here) (append_assoc start (flat_map (found_under table) (beginnings (take i text))) (found_under table (take (i + 1) text)))
    ∙ sym (ap (λ ts. start ++ flat_map (found_under table) ts) (more_beginnings text i d within)
    ∙ ap (λ ns. start ++ ns) (flat_map-append (found_under table) (beginnings (take i text)) (take (i + 1) text ∷ [])
    ∙ ap (λ ns. flat_map (found_under table) (beginnings (take i text)) ++ ns) last))
