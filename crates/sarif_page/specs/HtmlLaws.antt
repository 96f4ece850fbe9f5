-- Properties of the rows of a page, for any strings of a log.
use Rattle.std.specs.Prelude.{ℕ, ◌+◌, Bool, true, false, not, ◌&&◌, ◌||◌, ◌==◌, nat_eq, List, [], ◌∷◌, Option, Some, None, codes, if◌then◌else◌}
use Rattle.std.specs.List.{count_by, enumerate_from, list_all, list_any, starts_with, sum_by}
use Rattle.sarif_findings.specs.declared.code.Code.{Code}
use Rattle.sarif_findings.specs.declared.finding.Finding.{Finding}
use Rattle.sarif_findings.specs.CodeRows.{has_mark}
use Rattle.sarif_shown.specs.EscapedLaws.{is_markup, begins_entity}
use Rattle.sarif_shown.specs.Linked.{place_link}
use Rattle.sarif_page.specs.HtmlBreaks.{breaks_in}
use Rattle.sarif_page.specs.HtmlRows.{file_of, is_in}

-- the number of tags in it: each begins with `<`
abbrev pub tags_in : List ℕ → ℕ
tags_in text = count_by (λ b. b == 60) text

-- the number of quotes in it: each attribute has two
abbrev pub quotes_in : List ℕ → ℕ
quotes_in text = count_by (λ b. b == 34) text

-- the tags of a link, if there is one
abbrev pub link_tags : Option (List ℕ) → ℕ
link_tags None = 0
link_tags (Some address) = 2

-- the quotes of a title, if a link has one
abbrev pub title_quotes : Option (List ℕ) → ℕ
title_quotes None = 0
title_quotes (Some name) = 2

-- the quotes of a link, if there is one: those of its two other attributes, and of its title
abbrev pub link_quotes : Option (List ℕ) → Option (List ℕ) → ℕ
link_quotes None name = 0
link_quotes (Some address) name = 4 + title_quotes name

-- the tags of a rule: its code's, its breaks, and those of a link
abbrev pub rule_tags : List ℕ → Option (List ℕ) → ℕ
rule_tags [] help = 0
rule_tags (b ∷ bs) help = 2 + (breaks_in (b ∷ bs) + link_tags help)

-- the quotes of a rule: those of a link
abbrev pub rule_quotes : List ℕ → Option (List ℕ) → Option (List ℕ) → ℕ
rule_quotes [] help name = 0
rule_quotes (b ∷ bs) help name = link_quotes help name

-- the tags of a place without its link: its code's, and those of a path
abbrev pub path_tags : Option (List ℕ) → ℕ
path_tags None = 2
path_tags (Some path) = 4

-- the quotes of a place without its link: those of the class of a path without a line
abbrev pub path_quotes : Option (List ℕ) → Option ℕ → ℕ
path_quotes None line = 0
path_quotes (Some path) None = 2
path_quotes (Some path) (Some line) = 0

-- the tags of a place: its own, and those of a link
abbrev pub place_tags : Option (List ℕ) → Finding → ℕ
place_tags link f = path_tags f.path + link_tags (place_link link f)

-- the quotes of a place: its own, and those of a link
abbrev pub place_quotes : Option (List ℕ) → Finding → ℕ
place_quotes link f = path_quotes f.path f.line + link_quotes (place_link link f) None

-- the tags of a line of code: those of a mark, if it is the hit line
abbrev pub mark_tags : Code → ℕ × List ℕ → ℕ
mark_tags code line = if has_mark code line.0 then 2 else 0

-- the tags of the code, if there is any: its own, and those of a mark
abbrev pub code_tags : Option Code → ℕ
code_tags None = 0
code_tags (Some code) = 4 + sum_by (mark_tags code) (enumerate_from 0 code.lines)

-- the tags of a row: its own, those of its level, message and tool, and those in the rule, the code and the place
abbrev pub row_tags : Option (List ℕ) → Finding → ℕ
row_tags link f = 12 + (rule_tags f.rule f.help + (code_tags f.code + place_tags link f))

-- the quotes of a row: those of its three attributes, and those in the rule and the place
abbrev pub row_quotes : Option (List ℕ) → Finding → ℕ
row_quotes link f = 6 + (rule_quotes f.rule f.help f.rule_name + place_quotes link f)

-- whether the string starts with a `#` by its number
abbrev pub begins_sign : List ℕ → Bool
begins_sign bs = starts_with nat_eq bs (codes "&#35;")

-- whether no `<`, `>`, `"` and `'` occurs in it, each `&` begins an entity or a `#` by its number, and each `#` follows
-- an `&`; whether one is before the string
abbrev pub is_code_text : Bool → List ℕ → Bool
is_code_text after_and [] = true
is_code_text after_and (b ∷ bs) =
    not (is_markup b) && ((not (b == 38) || (begins_entity (b ∷ bs) || begins_sign (b ∷ bs)))
    && ((not (b == 35) || after_and) && is_code_text (b == 38) bs))

-- whether a string has no tags but breaks, read after this part of a break; each `&` of it begins an entity
abbrev pub has_breaks : List ℕ → List ℕ → Bool
has_breaks [] [] = true
has_breaks [] (b ∷ bs) =
    if b == 60 then has_breaks (codes "wbr>") bs
    else (not (is_markup b) && ((not (b == 38) || begins_entity (b ∷ bs)) && has_breaks [] bs))
has_breaks (c ∷ cs) [] = false
has_breaks (c ∷ cs) (b ∷ bs) = b == c && has_breaks cs bs

-- whether the rows of this row's file come first among the rows after it, and no row of it comes later
abbrev pub goes_on : Finding → List Finding → Bool
goes_on f [] = true
goes_on f (g ∷ gs) =
    if is_in (file_of f) g then goes_on f gs else not (list_any (is_in (file_of f)) gs)

-- whether the rows of each file are together
abbrev pub are_together : List Finding → Bool
are_together [] = true
are_together (f ∷ fs) = goes_on f fs && are_together fs

-- whether these rows are of one file
abbrev pub are_of_one_file : List Finding → Bool
are_of_one_file [] = true
are_of_one_file (f ∷ fs) = list_all (is_in (file_of f)) fs
