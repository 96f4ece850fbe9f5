-- What rows of the table in Markdown hold: the tags and the attributes that a reader finds, and which ones are stated for
-- a row; whether each mark outside of the tags is a bar, or part of a character that is written by its number.
use Rattle.std.specs.Prelude.{ℕ, Bool, true, false, not, ◌&&◌, ◌||◌, ◌==◌, List, [], ◌∷◌, ◌++◌, Option, Some, None, codes, if◌then◌else◌}
use Rattle.std.specs.Char.{is_ascii_digit}
use Rattle.sarif_findings.specs.declared.code.Code.{Code}
use Rattle.sarif_findings.specs.CodeRows.{one_line}
use Rattle.sarif_findings.specs.Finding.{spot_text}
use Rattle.sarif_shown.specs.declared.escaping.Escaping.TheVariants.{Markdown, Page}
use Rattle.sarif_shown.specs.Escaped.{escaped, is_mark}
use Rattle.sarif_shown.specs.Linked.{place_link}
use Rattle.sarif_page.specs.HtmlAttributes.{Attribute}
use Rattle.sarif_reports.specs.MarkdownReport.{Row, is_coded, title_of}

-- ---- readers

-- the tags in a string: each begins with `<` and ends with the next `>`. The string is read within this part of a tag, if
-- there is one
abbrev pub tags_from : Option (List ℕ) → List ℕ → List (List ℕ)
tags_from tag [] = []
tags_from None (b ∷ bs) = if b == 60 then tags_from (Some []) bs else tags_from None bs
tags_from (Some tag) (b ∷ bs) =
    if b == 62 then tag ∷ tags_from None bs else tags_from (Some (tag ++ b ∷ [])) bs

abbrev pub tags_of : List ℕ → List (List ℕ)
tags_of text = tags_from None text

-- whether each mark is part of a tag or of `&#N;`, or is a bar: read between these, within a tag, after a `&`, and in the
-- number
abbrev mutual
  pub has_row_marks : List ℕ → Bool
  has_row_marks [] = true
  has_row_marks (b ∷ bs) =
      if b == 60 then ends_tag bs else (
      if b == 38 then begins_number_in_row bs else ((b == 124 || not (is_mark b)) && has_row_marks bs))

  pub ends_tag : List ℕ → Bool
  ends_tag [] = false
  ends_tag (b ∷ bs) = if b == 62 then has_row_marks bs else ends_tag bs

  pub begins_number_in_row : List ℕ → Bool
  begins_number_in_row [] = false
  begins_number_in_row (b ∷ bs) = b == 35 && ends_number_in_row bs

  pub ends_number_in_row : List ℕ → Bool
  ends_number_in_row [] = false
  ends_number_in_row (b ∷ bs) =
      if b == 59 then has_row_marks bs else (is_ascii_digit b && ends_number_in_row bs)

-- ---- the tags of a row

-- a string as code; none for the empty string
abbrev pub code_tags : List ℕ → List (List ℕ)
code_tags [] = []
code_tags (b ∷ bs) = codes "code" ∷ codes "/code" ∷ []

-- the tag that begins a link to this address, with the name of what it is about
abbrev pub link_tag : List ℕ → Option (List ℕ) → List ℕ
link_tag address name =
    codes "a href=\"" ++ (escaped Page address ++ (codes "\"" ++ title_of name))

abbrev pub linked_tags : Option (List ℕ) → Option (List ℕ) → List ℕ → List (List ℕ)
linked_tags None name text = code_tags text
linked_tags (Some address) name text =
    link_tag address name ∷ (code_tags text ++ codes "/a" ∷ [])

-- no tags without a rule
abbrev pub rule_tags : List ℕ → Option (List ℕ) → Option (List ℕ) → List (List ℕ)
rule_tags [] help name = []
rule_tags (b ∷ bs) help name = linked_tags help name (b ∷ bs)

-- a line of the code, if the row has one and there is code
abbrev pub line_tags : Bool → Option Code → List (List ℕ)
line_tags coded None = []
line_tags false (Some code) = []
line_tags true (Some code) = codes "br" ∷ code_tags (one_line code)

-- the tags of the place, the rule, the message, the code and the tool
abbrev pub row_tags : Option (List ℕ) → Row → List (List ℕ)
row_tags link row =
    linked_tags (place_link link row.1) None (spot_text row.1)
    ++ (rule_tags row.1.rule row.1.help row.1.rule_name
    ++ (code_tags row.1.message
    ++ (line_tags (is_coded row) row.1.code ++ code_tags row.1.tool)))

-- ---- the attributes of a row

-- the name of what a link is about
abbrev pub title_attributes : Option (List ℕ) → List Attribute
title_attributes None = []
title_attributes (Some name) = (codes "title=", escaped Markdown name) ∷ []

-- a link to this address, if there is one
abbrev pub link_attributes : Option (List ℕ) → Option (List ℕ) → List Attribute
link_attributes None name = []
link_attributes (Some address) name =
    (codes "href=", escaped Page address) ∷ title_attributes name

-- no link without a rule
abbrev pub rule_attributes : List ℕ → Option (List ℕ) → Option (List ℕ) → List Attribute
rule_attributes [] help name = []
rule_attributes (b ∷ bs) help name = link_attributes help name

-- the attributes of the links of the place and of the rule
abbrev pub row_attributes : Option (List ℕ) → Row → List Attribute
row_attributes link row =
    link_attributes (place_link link row.1) None
    ++ rule_attributes row.1.rule row.1.help row.1.rule_name
