-- Strings in which some characters are replaced.
use Rattle.std.specs.Prelude.{ℕ, Bool, ◌||◌, List, ◌==◌, ◌++◌, codes, chars, encode_utf8, flat_map, if◌then◌else◌}
use Rattle.std.specs.Fmt.{decimal}
use Rattle.sarif_findings.specs.Shown.{is_between}
use Rattle.sarif_shown.specs.declared.escaping.Escaping.{Escaping}
use Rattle.sarif_shown.specs.declared.escaping.Escaping.TheVariants.{Message, Property, Markdown, Page, IssueMessage, IssueProperty}

-- a character of a workflow command's message
abbrev pub message_char : ℕ → List ℕ
message_char c = if c == 37 then codes "%25" else encode_utf8 c

-- a character of a workflow command's property
abbrev pub property_char : ℕ → List ℕ
property_char c =
    if c == 37 then codes "%25" else (
    if c == 58 then codes "%3A" else (
    if c == 44 then codes "%2C" else encode_utf8 c))

-- the marks of Markdown and of HTML
abbrev pub is_mark : ℕ → Bool
is_mark c =
    is_between 33 43 c || c == 46 || is_between 58 64 c || is_between 91 96 c
    || is_between 123 126 c

-- a character in Markdown: a mark is written by its number
abbrev pub markdown_char : ℕ → List ℕ
markdown_char c = if is_mark c then codes "&#" ++ (decimal c ++ codes ";") else encode_utf8 c

-- a character of an element's text, or of an attribute in quotes
abbrev pub page_char : ℕ → List ℕ
page_char c =
    if c == 38 then codes "&amp;" else (
    if c == 60 then codes "&lt;" else (
    if c == 62 then codes "&gt;" else (
    if c == 34 then codes "&quot;" else (
    if c == 39 then codes "&#39;" else encode_utf8 c))))

-- a character of a logging command's message
abbrev pub issue_message_char : ℕ → List ℕ
issue_message_char c = if c == 37 then codes "%AZP25" else encode_utf8 c

-- a character of a logging command's property
abbrev pub issue_property_char : ℕ → List ℕ
issue_property_char c =
    if c == 37 then codes "%AZP25" else (
    if c == 59 then codes "%3B" else (
    if c == 93 then codes "%5D" else encode_utf8 c))

abbrev pub escaped_char : Escaping → ℕ → List ℕ
escaped_char Message c = message_char c
escaped_char Property c = property_char c
escaped_char Markdown c = markdown_char c
escaped_char Page c = page_char c
escaped_char IssueMessage c = issue_message_char c
escaped_char IssueProperty c = issue_property_char c

-- a string, character by character
unfoldable pub escaped : Escaping → List ℕ → List ℕ
escaped way text = flat_map (escaped_char way) (chars text)
