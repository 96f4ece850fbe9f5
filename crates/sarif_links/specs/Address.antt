-- The addresses that reports link to: of the web, and only with characters that mean nothing else in a page or in
-- Markdown. A string is a list of bytes here; each character of an address is one byte.
use Rattle.std.specs.Prelude.{ℕ, Bool, true, false, not, ◌&&◌, ◌||◌, ◌==◌, nat_eq, nat_le, List, [], ◌∷◌, codes, drop, length, if◌then◌else◌}
use Rattle.std.specs.List.{list_any, starts_with}

-- a letter, a digit, or one of `.:_-`
abbrev pub is_host_sign : ℕ → Bool
is_host_sign c =
    (nat_le 65 c && nat_le c 90) || ((nat_le 97 c && nat_le c 122) || ((nat_le 48 c && nat_le c 57)
    || list_any (nat_eq c) (codes ".:_-")))

-- what may come next after a host
abbrev pub ends_host : ℕ → Bool
ends_host c = list_any (nat_eq c) (codes "/?#")

-- what an address may have only after its host, besides `/?#`
abbrev pub is_later_sign : ℕ → Bool
is_later_sign c = list_any (nat_eq c) (codes "~@!&()*+,;=%")

-- any character of an address
abbrev pub is_address_sign : ℕ → Bool
is_address_sign c =
    is_host_sign c || (ends_host c || is_later_sign c)

-- whether an address may go on with this: in its host, or after it
abbrev pub may_go_on : Bool → ℕ → Bool
may_go_on true c = is_host_sign c || ends_host c
may_go_on false c = is_address_sign c

abbrev pub goes_on : Bool → List ℕ → Bool
goes_on in_host [] = true
goes_on in_host (c ∷ cs) = may_go_on in_host c && goes_on (in_host && is_host_sign c) cs

-- a host of one character or more, and what follows it
abbrev pub begins_with_host : List ℕ → Bool
begins_with_host [] = false
begins_with_host (c ∷ cs) = is_host_sign c && goes_on true cs

-- what follows `https://` or `http://`; nothing if there is neither
abbrev pub after_scheme : List ℕ → List ℕ
after_scheme text =
    if starts_with nat_eq text (codes "https://") then drop 8 text else (
    if starts_with nat_eq text (codes "http://") then drop 7 text else [])

-- whether two `#` are adjacent, including a first `#` after a preceding `#`
abbrev pub has_two_signs : Bool → List ℕ → Bool
has_two_signs after_sign [] = false
has_two_signs after_sign (c ∷ cs) = (after_sign && c == 35) || has_two_signs (c == 35) cs

abbrev pub most_of_address : ℕ
most_of_address = 1000

-- at most that many characters, and no two adjacent `#`
abbrev pub is_address : List ℕ → Bool
is_address text =
    nat_le (length text) most_of_address
    && (begins_with_host (after_scheme text) && not (has_two_signs false text))
