-- A row of a page, and the path of its group. Strings of a log are only in element text, in `href` and in `title`,
-- escaped.
use Rattle.std.specs.Prelude.{ℕ, Bool, true, false, List, [], ◌∷◌, ◌++◌, Option, Some, None, codes}
use Rattle.std.specs.Fmt.{decimal}
use Rattle.sarif_model.specs.Level.{level_name}
use Rattle.sarif_model.specs.State.{state_name}
use Rattle.sarif_counts.specs.Impacts.{is_hit}
use Rattle.sarif_findings.specs.declared.finding.Finding.{Finding}
use Rattle.sarif_findings.specs.Finding.{numbered, place_path}
use Rattle.sarif_shown.specs.declared.escaping.Escaping.TheVariants.{Page}
use Rattle.sarif_shown.specs.Escaped.{escaped}
use Rattle.sarif_shown.specs.Linked.{place_link}
use Rattle.sarif_page.specs.HtmlBreaks.{broken}
use Rattle.sarif_page.specs.HtmlCode.{code_cell}

-- ---- links

-- the name of what a link is about, as its title
abbrev pub title_of : Option (List ℕ) → List ℕ
title_of None = []
title_of (Some name) = codes " title=\"" ++ (escaped Page name ++ codes "\"")

-- the beginning of a link to an address
unfoldable pub link_begin : List ℕ → Option (List ℕ) → List ℕ
link_begin address name =
    codes "<a href=\"" ++ (escaped Page address
    ++ (codes "\"" ++ (title_of name ++ codes " rel=\"noopener noreferrer\">")))

-- ---- a row

abbrev pub hit_word : Bool → List ℕ
hit_word true = codes "yes"
hit_word false = codes "no"

abbrev pub row_data : List ℕ → List ℕ → List ℕ → List ℕ
row_data level state hit =
    codes "<li data-level=\"" ++ (level
    ++ (codes "\" data-state=\"" ++ (state ++ (codes "\" data-hit=\"" ++ (hit ++ codes "\">")))))

unfoldable pub row_front : Finding → List ℕ
row_front f = row_data (level_name f.level) (state_name f.state) (hit_word (is_hit f.impact))

-- a path with its place in it; the path is a separate element, since the heading of the group has it too
abbrev pub spot_at : List ℕ → List ℕ → List ℕ
spot_at path position =
    codes "<code><i>" ++ (escaped Page path ++ (codes ":</i>" ++ (escaped Page position ++ codes "</code>")))

-- a path without a line
abbrev pub whole_file : List ℕ → List ℕ
whole_file path = codes "<code class=\"all\"><i>" ++ (escaped Page path ++ codes "</i></code>")

abbrev pub spot_in : List ℕ → Option ℕ → Option ℕ → List ℕ
spot_in path None column = whole_file (place_path path ++ numbered column)
spot_in path (Some line) column = spot_at (place_path path) (decimal line ++ numbered column)

-- the place of the text report
abbrev pub place_of : Option (List ℕ) → Option ℕ → Option ℕ → List ℕ
place_of None line column = codes "<code>-</code>"
place_of (Some path) line column = spot_in path line column

abbrev pub place_text : Finding → List ℕ
place_text f = place_of f.path f.line f.column

-- the place, which links to its address if there is one
abbrev pub linked_place : Option (List ℕ) → Finding → List ℕ
linked_place None f = place_text f
linked_place (Some address) f = link_begin address None ++ (place_text f ++ codes "</a>")

abbrev pub place_cell : Option (List ℕ) → Finding → List ℕ
place_cell link f = linked_place (place_link link f) f

-- a level or a state
abbrev pub bold : List ℕ → List ℕ
bold name = codes "<b>" ++ (name ++ codes "</b> ")

unfoldable pub message_cells : Finding → List ℕ
message_cells f =
    codes " " ++ (bold (level_name f.level) ++ (codes "<p>" ++ (escaped Page f.message
    ++ (codes "</p>" ++ (code_cell f.code ++ codes " <div>")))))

abbrev pub rule_code : List ℕ → List ℕ
rule_code rule = codes "<code>" ++ (broken rule ++ codes "</code>")

-- a rule, which links to its page if there is one; the link has its name
abbrev pub linked : List ℕ → Option (List ℕ) → Option (List ℕ) → List ℕ
linked rule None name = rule_code rule
linked rule (Some address) name = link_begin address name ++ (rule_code rule ++ codes "</a>")

-- nothing without a rule
abbrev pub rule_cell : List ℕ → Option (List ℕ) → Option (List ℕ) → List ℕ
rule_cell [] help name = []
rule_cell (b ∷ bs) help name = linked (b ∷ bs) help name ++ codes " "

unfoldable pub tool_cells : Finding → List ℕ
tool_cells f =
    codes "<span>" ++ (bold (state_name f.state)
    ++ (escaped Page f.tool ++ codes "</span></div></li>\n"))

unfoldable pub result_row : Option (List ℕ) → Finding → List ℕ
result_row link f =
    row_front f ++ (place_cell link f ++ (message_cells f
    ++ (rule_cell f.rule f.help f.rule_name ++ tool_cells f)))

-- rows whose places are linked by this template, if there is one
abbrev pub rows_html : Option (List ℕ) → List Finding → List ℕ
rows_html link [] = []
rows_html link (f ∷ fs) = result_row link f ++ rows_html link fs

-- ---- the path of a group

abbrev pub path_text : Option (List ℕ) → List ℕ
path_text None = codes "No path"
path_text (Some path) = broken path

-- the path of these rows
abbrev pub file_text : List Finding → List ℕ
file_text [] = []
file_text (f ∷ fs) = path_text f.path
