-- The paths that a URI may represent.
use Rattle.std.specs.Prelude.{ℕ, ◌+◌, ◌*◌, ◌-◌, zero, suc, Bool, false, ◌&&◌, ◌||◌, ◌==◌, nat_le, List, [], ◌∷◌, length, take, drop, map, Option, Some, None, is_some, unwrap_or, if◌then◌else◌}
use Rattle.std.specs.List.{flat_map, position_or_len}
use Rattle.std.specs.Option.{option_to_list}
use Rattle.std.specs.Char.{is_ascii_alphabetic, is_ascii_alphanumeric, is_ascii_hexdigit}
use Rattle.sarif_diff.specs.Lines.{begins}
use Rattle.sarif_change.specs.Parts.{parts_of}

-- ---- readings

-- up to the first `?` or `#`
abbrev pub is_cut : ℕ → Bool
is_cut b = b == 63 || b == 35

abbrev pub before_cut : List ℕ → List ℕ
before_cut uri = take (position_or_len is_cut uri) uri

abbrev pub hex_value : ℕ → ℕ
hex_value b = if nat_le b 57 then b - 48 else if nat_le b 70 then b - 55 else b - 87

-- the byte that a `%` and the two hexadecimal digits after it represent, if such digits follow
abbrev pub hex_byte : List ℕ → Option ℕ
hex_byte [] = None
hex_byte (b ∷ []) = None
hex_byte (b ∷ c ∷ rest) =
    if is_ascii_hexdigit b && is_ascii_hexdigit c then Some (hex_value b * 16 + hex_value c) else None

abbrev pub escaped : ℕ → List ℕ → Option ℕ
escaped b rest = if b == 37 then hex_byte rest else None

-- how many bytes belong to the one before them
abbrev pub digits_after : Option ℕ → ℕ
digits_after escape = if is_some escape then 2 else 0

-- with each `%` and two hexadecimal digits after it as that byte; the digits that belong to the byte before are skipped
unfoldable pub decoded_from : ℕ → List ℕ → List ℕ
decoded_from skipped [] = []
decoded_from (suc skipped) (b ∷ bs) = decoded_from skipped bs
decoded_from zero (b ∷ bs) = unwrap_or (escaped b bs) b ∷ decoded_from (digits_after (escaped b bs)) bs

abbrev pub decoded : List ℕ → List ℕ
decoded uri = decoded_from 0 uri

abbrev pub readings_of : List ℕ → List (List ℕ)
readings_of uri = uri ∷ before_cut uri ∷ decoded uri ∷ decoded (before_cut uri) ∷ []

-- ---- paths

-- a path: whether it is absolute, and its parts
abbrev pub Path : Type 0
Path = Bool × List (List ℕ)

abbrev pub is_in_scheme : ℕ → Bool
is_in_scheme b = is_ascii_alphanumeric b || b == 43 || b == 45 || b == 46

-- whether a scheme goes on with these bytes and ends with `:`
abbrev pub ends_scheme : List ℕ → Bool
ends_scheme [] = false
ends_scheme (b ∷ bs) = b == 58 || (is_in_scheme b && ends_scheme bs)

abbrev pub is_absolute : List ℕ → Bool
is_absolute [] = false
is_absolute (b ∷ bs) = b == 47 || b == 92 || (is_ascii_alphabetic b && ends_scheme bs)

-- what follows the first of these roots that a reading begins with
abbrev pub after_root : List (List ℕ) → List ℕ → Option (List ℕ)
after_root [] reading = None
after_root (root ∷ roots) reading =
    if begins reading root then Some (drop (length root) reading) else after_root roots reading

abbrev pub own_path : List ℕ → Path
own_path reading = (is_absolute reading, parts_of reading)

abbrev pub relative_path : List ℕ → Path
relative_path rest = (false, parts_of rest)

-- the readings that begin with a root, without that root; if there are any, only they count
abbrev pub after_roots : List (List ℕ) → List (List ℕ) → List (List ℕ)
after_roots roots readings = flat_map (λ reading. option_to_list (after_root roots reading)) readings

abbrev pub chosen_paths : List (List ℕ) → List (List ℕ) → List Path
chosen_paths readings [] = map own_path readings
chosen_paths readings (rest ∷ more) = map relative_path (rest ∷ more)

abbrev pub paths_of : List (List ℕ) → List ℕ → List Path
paths_of roots uri = chosen_paths (readings_of uri) (after_roots roots (readings_of uri))
