-- A URI read as a path.
use Rattle.std.specs.Prelude.{ℕ, Bool, true, false, not, ◌&&◌, ◌||◌, ◌==◌, nat_eq, List, [], ◌∷◌, drop, length, Option, Some, None, chars, unwrap_or, if◌then◌else◌}
use Rattle.std.specs.List.{starts_with}
use Rattle.std.specs.Char.{is_ascii_hexdigit}
use Rattle.std.specs.Str.{is_utf8}
use Rattle.percent_encoding.specs.Percent.{percent_decode}
use Rattle.sarif_findings.specs.Placeholders.{first_is}

-- whether the string starts with two hexadecimal digits
abbrev pub begins_with_digits : List ℕ → Bool
begins_with_digits [] = false
begins_with_digits (high ∷ []) = false
begins_with_digits (high ∷ low ∷ rest) = is_ascii_hexdigit high && is_ascii_hexdigit low

-- whether each `%` has two hexadecimal digits after it
abbrev pub is_escaped : List ℕ → Bool
is_escaped [] = true
is_escaped (b ∷ bs) = (not (b == 37) || begins_with_digits bs) && is_escaped bs

-- the decoded URI if all escapes are complete and the decoded bytes are UTF-8; otherwise the URI unchanged
abbrev pub decoded : List ℕ → List ℕ
decoded uri = if is_escaped uri && is_utf8 (percent_decode uri) then percent_decode uri else uri

-- the rest of a path that begins with the root; an empty root is ignored
abbrev pub after_root : List ℕ → List ℕ → Option (List ℕ)
after_root root path =
    if not (length root == 0) && starts_with nat_eq path root
    then Some (drop (length root) path) else None

-- a path without the first of these roots that it begins with
abbrev pub without_root : List (List ℕ) → List ℕ → List ℕ
without_root [] path = path
without_root (root ∷ roots) path = unwrap_or (after_root root path) (without_root roots path)

-- ---- characters

-- whether this is the `.` of a `./`: the folder that a path is relative to
abbrev pub begins_here : ℕ → List ℕ → Bool
begins_here c cs = c == 46 && first_is 47 cs

-- whether a character that follows a `./` is removed with it: a slash, or the `.` of one more `./`
abbrev pub is_removed : ℕ → List ℕ → Bool
is_removed c cs = c == 47 || begins_here c cs

-- after a `./`, the string from the first character on that is not removed
abbrev pub after_here : List ℕ → List ℕ
after_here [] = []
after_here (c ∷ cs) = if is_removed c cs then after_here cs else c ∷ cs

-- as long as a path begins with `./`, this is removed with all slashes that follow it
abbrev pub without_here : List ℕ → List ℕ
without_here [] = []
without_here (c ∷ cs) = if begins_here c cs then after_here cs else c ∷ cs

-- the characters of a URI that is read as a path
abbrev pub path_chars : List (List ℕ) → List ℕ → List ℕ
path_chars roots uri = without_here (chars (without_root roots (decoded uri)))
