-- What is in an address.
use Rattle.std.proofs.Common.{◌≡◌, ◌++◌, ℕ, Bool, true, false, not, ◌&&◌, ◌||◌, nat_eq, nat_le, List, [], ◌∷◌, codes, drop, length, refl, sym, subst, if◌then◌else◌}
use Rattle.std.specs.List.{list_all, starts_with}
use Rattle.std.proofs.lemmas.Bool.{true≢false}
use Rattle.std.proofs.lemmas.Bool.Decides.{Decides-eqb}
use Rattle.std.proofs.lemmas.Slice.Eq.{starts_is}
use Rattle.sarif_links.specs.Address.{after_scheme, begins_with_host, ends_host, goes_on, has_two_signs, is_address, is_address_sign, is_host_sign, is_later_sign, may_go_on, most_of_address}

pub both : (a b : Bool) → (a && b) ≡ true → (a ≡ true) × (b ≡ true)
both true b h = (refl, h)
both false b h = absurd (true≢false (sym h))

pub joined : (a b : Bool) → a ≡ true → b ≡ true → (a && b) ≡ true
joined true b h k = k
joined false b h k = absurd (true≢false (sym h))

among : (host ends later : Bool) → (host || ends) ≡ true → (host || (ends || later)) ≡ true
among true ends later h = refl
among false true later h = refl
among false false later h = absurd (true≢false (sym h))

may_be : (in_host : Bool) (c : ℕ) → may_go_on in_host c ≡ true → is_address_sign c ≡ true
may_be true c h = among (is_host_sign c) (ends_host c) (is_later_sign c) h
may_be false c h = h

on : (in_host : Bool) (cs : List ℕ) → goes_on in_host cs ≡ true → list_all is_address_sign cs ≡ true
on in_host [] h = refl
on in_host (c ∷ cs) h =
    let parts = both (may_go_on in_host c) (goes_on (in_host && is_host_sign c) cs) h in
    joined (is_address_sign c) (list_all is_address_sign cs) (may_be in_host c parts.0) (on (in_host && is_host_sign c) cs parts.1)

host_sign : (host rest : Bool) → host ≡ true → (host || rest) ≡ true
host_sign true rest h = refl
host_sign false rest h = absurd (true≢false (sym h))

hosted : (cs : List ℕ) → begins_with_host cs ≡ true → list_all is_address_sign cs ≡ true
hosted [] h = absurd (true≢false (sym h))
hosted (c ∷ cs) h =
    let parts = both (is_host_sign c) (goes_on true cs) h in
    joined (is_address_sign c) (list_all is_address_sign cs) (host_sign (is_host_sign c) (ends_host c || is_later_sign c) parts.0) (on true cs parts.1)

pub parted : (text scheme : List ℕ) → starts_with nat_eq text scheme ≡ true → text ≡ scheme ++ drop (length scheme) text
parted text scheme h = (starts_is Decides-eqb text scheme (starts_with nat_eq text scheme) refl).0 h

-- by what the text begins with
pub signs_by : (secure plain : Bool) (text : List ℕ) → starts_with nat_eq text (codes "https://") ≡ secure → starts_with nat_eq text (codes "http://") ≡ plain
    → begins_with_host (if secure then drop 8 text else (if plain then drop 7 text else [])) ≡ true → list_all is_address_sign text ≡ true
signs_by true plain text s p h = subst (λ (t : List ℕ). list_all is_address_sign t ≡ true) (sym (parted text (codes "https://") s)) (hosted (drop 8 text) h)
signs_by false true text s p h = subst (λ (t : List ℕ). list_all is_address_sign t ≡ true) (sym (parted text (codes "http://") p)) (hosted (drop 7 text) h)
signs_by false false text s p h = absurd (true≢false (sym h))

scheme_by : (secure plain : Bool) (text : List ℕ) → starts_with nat_eq text (codes "https://") ≡ secure → starts_with nat_eq text (codes "http://") ≡ plain
    → begins_with_host (if secure then drop 8 text else (if plain then drop 7 text else [])) ≡ true → starts_with nat_eq text (codes "http") ≡ true
scheme_by true plain text s p h = subst (λ (t : List ℕ). starts_with nat_eq t (codes "http") ≡ true) (sym (parted text (codes "https://") s)) refl
scheme_by false true text s p h = subst (λ (t : List ℕ). starts_with nat_eq t (codes "http") ≡ true) (sym (parted text (codes "http://") p)) refl
scheme_by false false text s p h = absurd (true≢false (sym h))

has_host : (text : List ℕ) → is_address text ≡ true → begins_with_host (after_scheme text) ≡ true
has_host text h =
    (both (begins_with_host (after_scheme text)) (not (has_two_signs false text))
    (both (nat_le (length text) most_of_address) (begins_with_host (after_scheme text) && not (has_two_signs false text)) h).1).0

pub signs : (text : List ℕ) → is_address text ≡ true → list_all is_address_sign text ≡ true
signs text h =
    signs_by (starts_with nat_eq text (codes "https://")) (starts_with nat_eq text (codes "http://")) text refl refl (has_host text h)

pub scheme : (text : List ℕ) → is_address text ≡ true → starts_with nat_eq text (codes "http") ≡ true
scheme text h =
    scheme_by (starts_with nat_eq text (codes "https://")) (starts_with nat_eq text (codes "http://")) text refl refl (has_host text h)
