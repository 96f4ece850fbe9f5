-- The names of files in a diff. Names are bytes.
use Rattle.std.specs.Prelude.{ℕ, ◌+◌, ◌≤◌, ◌*◌, ◌-◌, ◌/◌, Bool, false, ◌&&◌, ◌||◌, nat_eq, nat_le, ◌==◌, List, [], ◌∷◌, ◌++◌, length, take, drop, Option, Some, None, Result, Ok, Err, codes, get_or, if◌then◌else◌}
use Rattle.std.specs.List.{position_or_len}
use Rattle.std.specs.Cmp.Lexicographic.{pointwise}
use Rattle.sarif_model.specs.Members.{◌>>=◌, result_map}
use Rattle.sarif_diff.specs.Lines.{begins}
use Rattle.sarif_diff.specs.declared.fault.LineFault.{LineFault}
use Rattle.sarif_diff.specs.declared.fault.LineFault.TheVariants.{BadHeader}
use Rattle.sarif_diff.specs.declared.quoted.Escape.{Escape}
use Rattle.sarif_diff.specs.declared.quoted.Escape.TheVariants.{Outside, Begun, OneDigit, TwoDigits}
use Rattle.sarif_diff.specs.declared.quoted.Meaning.{Meaning}
use Rattle.sarif_diff.specs.declared.quoted.Meaning.TheVariants.{Goes, Gives, Ends, Fails}

-- ---- quoted names

-- the byte that a backslash and this letter are
abbrev pub escaped : ℕ → Option ℕ
escaped b =
    if b == 97 then Some 7 else if b == 98 then Some 8 else if b == 116 then Some 9
    else if b == 110 then Some 10 else if b == 118 then Some 11 else if b == 102 then Some 12
    else if b == 114 then Some 13 else if b == 34 then Some 34 else if b == 92 then Some 92 else None

-- whether a byte is a digit up to this one
abbrev pub is_digit_to : ℕ → ℕ → Bool
is_digit_to last b = nat_le 48 b && nat_le b last

abbrev pub given : Option ℕ → Meaning
given None = Fails
given (Some b) = Gives b

-- the digits that were read are those of a byte: the first of three is at most 3
abbrev pub IsLow : Escape → Type 0
IsLow Outside = Unit {0}
IsLow Begun = Unit {0}
IsLow (OneDigit n) = n ≤ 3
IsLow (TwoDigits n) = n ≤ 31

abbrev pub GoesLow : Meaning → Type 0
GoesLow (Goes escape) = IsLow escape
GoesLow (Gives b) = Unit {0}
GoesLow Ends = Unit {0}
GoesLow Fails = Unit {0}

-- what a byte of a quoted name means, in an escape or outside
abbrev pub meaning_of : Escape → ℕ → Meaning
meaning_of Outside b = if b == 34 then Ends else if b == 92 then Goes Begun else Gives b
meaning_of Begun b = if is_digit_to 51 b then Goes (OneDigit (b - 48)) else given (escaped b)
meaning_of (OneDigit n) b = if is_digit_to 55 b then Goes (TwoDigits (n * 8 + (b - 48))) else Fails
meaning_of (TwoDigits n) b = if is_digit_to 55 b then Gives (n * 8 + (b - 48)) else Fails

-- a quoted name with one more byte at its front
abbrev pub with_front : ℕ → Result (List ℕ × List ℕ) LineFault → Result (List ℕ × List ℕ) LineFault
with_front b (Ok q) = Ok (b ∷ q.0, q.1)
with_front b (Err fault) = Err fault

-- a name that goes on as its next byte means: `left` is what it has after that byte, by how far an escape was read
abbrev pub by_meaning : (Escape → Result (List ℕ × List ℕ) LineFault) → List ℕ → Meaning → Result (List ℕ × List ℕ) LineFault
by_meaning left rest (Goes next) = left next
by_meaning left rest (Gives b) = with_front b (left Outside)
by_meaning left rest Ends = Ok ([], rest)
by_meaning left rest Fails = Err BadHeader

-- the name up to its closing quote, and what follows that
unfoldable pub unquoted : Escape → List ℕ → Result (List ℕ × List ℕ) LineFault
unquoted escape [] = Err BadHeader
unquoted escape (b ∷ bs) = by_meaning (λ next. unquoted next bs) bs (meaning_of escape b)

-- a name that goes on after these bytes
abbrev pub after_front : List ℕ → Result (List ℕ × List ℕ) LineFault → Result (List ℕ × List ℕ) LineFault
after_front front (Ok q) = Ok (front ++ q.0, q.1)
after_front front (Err fault) = Err fault

-- whether these bytes begin with a quote
abbrev pub is_quoted : List ℕ → Bool
is_quoted text = begins text (34 ∷ [])

-- ---- the names of lines

-- the letters of git's prefixes
abbrev pub is_letter : ℕ → Bool
is_letter b = b == 97 || b == 98 || b == 99 || b == 105 || b == 111 || b == 119 || b == 49 || b == 50

-- a name without git's prefix: one of these letters, and `/`
abbrev pub has_prefix : List ℕ → Bool
has_prefix [] = false
has_prefix (letter ∷ []) = false
has_prefix (letter ∷ slash ∷ rest) = is_letter letter && slash == 47

abbrev pub bare : List ℕ → List ℕ
bare name = if has_prefix name then drop 2 name else name

-- a name that is not empty
abbrev pub some_name : List ℕ → Result (List ℕ) LineFault
some_name name = if length name == 0 then Err BadHeader else Ok name

-- a quoted name that is followed by nothing
abbrev pub with_nothing : List ℕ × List ℕ → Result (List ℕ) LineFault
with_nothing q = if length q.1 == 0 then Ok q.0 else Err BadHeader

-- a name that is all of these bytes
abbrev pub whole_name : List ℕ → Result (List ℕ) LineFault
whole_name text = if is_quoted text then (unquoted Outside (drop 1 text) >>= with_nothing) else Ok text

-- the name of a line on a rename or a copy
abbrev pub moved_name : List ℕ → Result (List ℕ) LineFault
moved_name text = whole_name text >>= some_name

-- a quoted name that is followed by nothing, or by a tab and anything
abbrev pub with_tab : List ℕ × List ℕ → Result (List ℕ) LineFault
with_tab q = if length q.1 == 0 || begins q.1 (9 ∷ []) then Ok q.0 else Err BadHeader

abbrev pub is_tab : ℕ → Bool
is_tab b = b == 9

abbrev pub before_tab : List ℕ → List ℕ
before_tab text = take (position_or_len is_tab text) text

-- the name in a line `--- ` or `+++ `, which ends before the first tab
abbrev pub tabbed_name : List ℕ → Result (List ℕ) LineFault
tabbed_name text =
    if is_quoted text then (unquoted Outside (drop 1 text) >>= with_tab)
    else Ok (before_tab text)

abbrev pub is_null : List ℕ → Bool
is_null name = pointwise nat_eq name (codes "/dev/null")

-- the file of that name, or none
abbrev pub unless_null : List ℕ → Result (Option (List ℕ)) LineFault
unless_null name = if is_null name then Ok None else result_map (λ file. Some file) (some_name (bare name))

-- the file of a line `--- ` or `+++ `
abbrev pub file_of : List ℕ → Result (Option (List ℕ)) LineFault
file_of text = tabbed_name text >>= unless_null

-- ---- the two names of `diff --git`

-- the file that both are without their prefixes, if it is one
abbrev pub one_file : List ℕ → List ℕ → Result (Option (List ℕ)) LineFault
one_file old new =
    if length (bare old) == 0 || length (bare new) == 0 then Err BadHeader
    else Ok (if pointwise nat_eq (bare old) (bare new) then Some (bare new) else None)

-- a quoted first name, with a space and the second after it
abbrev pub after_quoted : List ℕ × List ℕ → Result (Option (List ℕ)) LineFault
after_quoted q =
    if begins q.1 (32 ∷ []) then (whole_name (drop 1 q.1) >>= one_file q.0) else Err BadHeader

-- two names of one length with a space between them
abbrev pub halves : List ℕ → Result (Option (List ℕ)) LineFault
halves text =
    if length text == 2 * (length text / 2) + 1 && get_or text (length text / 2) 0 == 32
    then one_file (take (length text / 2) text) (drop (length text / 2 + 1) text)
    else Ok None

-- the file of a line `diff --git `, if its two names are one file
abbrev pub git_file : List ℕ → Result (Option (List ℕ)) LineFault
git_file text = if is_quoted text then (unquoted Outside (drop 1 text) >>= after_quoted) else halves text
