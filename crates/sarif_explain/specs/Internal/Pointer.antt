-- JSON pointers (RFC 6901). A pointer is the bytes of its steps; each begins with `/`.
use Rattle.std.specs.Prelude.{ℕ, List, ◌==◌, ◌++◌, codes, chars, decimal, encode_utf8, flat_map, if◌then◌else◌}

-- a character of a member's name: `~` and `/` are escaped
abbrev pub name_char : ℕ → List ℕ
name_char c = if c == 126 then codes "~0" else (if c == 47 then codes "~1" else encode_utf8 c)

unfoldable pub escaped : List ℕ → List ℕ
escaped name = flat_map name_char (chars name)

abbrev pub step_to_member : List ℕ → List ℕ
step_to_member name = codes "/" ++ escaped name

abbrev pub step_to_element : ℕ → List ℕ
step_to_element index = codes "/" ++ decimal index
