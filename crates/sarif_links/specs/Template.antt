-- The address of a place: a template of the user's, whose placeholders a path and a line take. A string is a list of
-- bytes here.
use Rattle.std.specs.Prelude.{ℕ, Bool, false, not, ◌&&◌, ◌||◌, ◌==◌, nat_eq, nat_le, List, [], ◌∷◌, ◌++◌, Option, Some, None, codes, drop, length, flat_map, is_some, unwrap_or, bytes_eq, if◌then◌else◌}
use Rattle.std.specs.Fmt.{decimal}
use Rattle.std.specs.Option.{option_map_or, option_or}
use Rattle.std.specs.List.{count_by, list_all, list_any, slice_split, starts_with}
use Rattle.percent_encoding.specs.Percent.{percent_encode_byte}
use Rattle.sarif_links.specs.Address.{after_scheme, begins_with_host, has_two_signs, is_address_sign, is_host_sign, most_of_address}

-- ---- templates

-- what is before, between and after the `{` of a template: so each part but the first begins with a placeholder, without
-- its `{`
abbrev pub parts_of : List ℕ → List (List ℕ)
parts_of text = slice_split (λ byte. byte == 123) text

-- what follows this in a string that begins with it
abbrev pub after : List ℕ → List ℕ → Option (List ℕ)
after beginning text =
    if starts_with nat_eq text beginning then Some (drop (length beginning) text) else None

abbrev pub after_path : List ℕ → Option (List ℕ)
after_path part = after (codes "path}") part

abbrev pub after_line : List ℕ → Option (List ℕ)
after_line part = after (codes "line}") part

-- a placeholder, and then characters of an address
abbrev pub is_part : List ℕ → Bool
is_part part =
    option_map_or (list_all is_address_sign) (option_or (after_path part) (after_line part)) false

abbrev pub is_path_part : List ℕ → Bool
is_path_part part = is_some (after_path part)

-- whether a slash follows the characters of a host
abbrev pub has_slash_next : List ℕ → Bool
has_slash_next [] = false
has_slash_next (c ∷ cs) = c == 47 || (is_host_sign c && has_slash_next cs)

-- `https://` or `http://`, a host, a slash, and then characters of an address
abbrev pub is_start : List ℕ → Bool
is_start part = begins_with_host (after_scheme part) && has_slash_next (after_scheme part)

-- a start without placeholders, and `{path}` once among the others
abbrev pub are_parts : List (List ℕ) → Bool
are_parts [] = false
are_parts (start ∷ others) =
    is_start start && (list_all is_part others && count_by is_path_part others == 1)

-- at most as many characters as an address, and no two adjacent `#`
abbrev pub is_template : List ℕ → Bool
is_template text =
    nat_le (length text) most_of_address
    && (not (has_two_signs false text) && are_parts (parts_of text))

-- a string as a template, if it is one
abbrev pub template_of : List ℕ → Option (List ℕ)
template_of text = if is_template text then Some text else None

-- ---- paths

-- what is between the slashes of a path
abbrev pub segments_of : List ℕ → List (List ℕ)
segments_of path = slice_split (λ byte. byte == 47) path

-- a segment that names a folder by its place, or nothing
abbrev pub is_relative : List ℕ → Bool
is_relative segment =
    bytes_eq segment [] || (bytes_eq segment (codes ".") || bytes_eq segment (codes ".."))

-- whether a colon is in the first segment
abbrev pub has_scheme : List (List ℕ) → Bool
has_scheme [] = false
has_scheme (segment ∷ segments) = list_any (λ byte. byte == 58) segment

-- whether each segment is a name, and the first can't be a scheme or a drive
abbrev pub is_linkable : List ℕ → Bool
is_linkable path =
    not (list_any is_relative (segments_of path)) && not (has_scheme (segments_of path))

-- letters, digits, and `-._~/`
abbrev pub is_plain : ℕ → Bool
is_plain b =
    (nat_le 65 b && nat_le b 90) || ((nat_le 97 b && nat_le b 122) || ((nat_le 48 b && nat_le b 57)
    || list_any (nat_eq b) (codes "-._~/")))

-- a byte of a path, encoded: another byte is `%` and two hexadecimal digits
abbrev pub encoded_byte : ℕ → List ℕ
encoded_byte b = if is_plain b then b ∷ [] else percent_encode_byte b

abbrev pub encoded : List ℕ → List ℕ
encoded path = flat_map encoded_byte path

-- ---- addresses

-- a part with the path or the line instead of its placeholder
abbrev pub filled_part : List ℕ → ℕ → List ℕ → List ℕ
filled_part path line part =
    option_map_or (λ rest. encoded path ++ rest) (after_path part)
    (option_map_or (λ rest. decimal line ++ rest) (after_line part) [])

abbrev pub filled : List ℕ → ℕ → List (List ℕ) → List ℕ
filled path line [] = []
filled path line (start ∷ others) = start ++ flat_map (filled_part path line) others

-- the address of a line of a path, or of line 1, if there is one
abbrev pub place_address : List ℕ → List ℕ → Option ℕ → Option (List ℕ)
place_address template path line =
    if is_linkable path then Some (filled path (unwrap_or line 1) (parts_of template)) else None
