-- The hits as a terminal shows them: the first ones as lines of the text report, then how many more there are.
use Rattle.std.specs.Prelude.{ℕ, List, [], ◌∷◌, ◌++◌, ◌-◌, ◌==◌, codes, flat_map, length, take, if◌then◌else◌}
use Rattle.sarif_model.specs.declared.kinds.Level.{Level}
use Rattle.sarif_model.specs.declared.kinds.Level.TheVariants.{Error, Warning, Note, NoLevel}
use Rattle.sarif_model.specs.Level.{level_name}
use Rattle.sarif_findings.specs.declared.finding.Finding.{Finding}
use Rattle.sarif_findings.specs.Finding.{spot_text}
use Rattle.sarif_shown.specs.declared.terminal_lines.Screen.{Screen}
use Rattle.sarif_shown.specs.declared.terminal_lines.Screen.TheVariants.{Plain, Coloured}
use Rattle.sarif_shown.specs.Listed.{hits_among}
use Rattle.sarif_shown.specs.Sentences.{more_text}
use Rattle.sarif_shown.specs.TextReport.{bracketed, tool_and_state}

-- how many hits are shown
abbrev pub most_shown : ℕ
most_shown = 50

-- the control sequence that selects a style
abbrev pub sequence_of : List ℕ → List ℕ
sequence_of style = 27 ∷ 91 ∷ (style ++ codes "m")

-- a string in a style, if the style isn't empty and the screen is coloured
abbrev pub styled : Screen → List ℕ → List ℕ → List ℕ
styled Plain style text = text
styled Coloured [] text = text
styled Coloured (b ∷ bs) text = sequence_of (b ∷ bs) ++ (text ++ sequence_of (codes "0"))

-- the style of a level: bold and red, bold and yellow, cyan, or none
abbrev pub level_style : Level → List ℕ
level_style Error = codes "1;31"
level_style Warning = codes "1;33"
level_style Note = codes "36"
level_style NoLevel = []

abbrev pub level_and_message_on : Screen → Finding → List ℕ
level_and_message_on screen finding =
    codes ": " ++ (styled screen (level_style finding.level) (level_name finding.level)
    ++ (codes ": " ++ finding.message))

-- the line of a hit, as the text report has it, with a bold place and its level in a style
abbrev pub screen_line : Screen → Finding → List ℕ
screen_line screen finding =
    (styled screen (codes "1") (spot_text finding) ++ (level_and_message_on screen finding
    ++ (bracketed finding.rule ++ tool_and_state finding))) ++ codes "\n"

-- how many hits have no line, if there are any
abbrev pub more_hits_line : ℕ → List ℕ
more_hits_line n = if n == 0 then [] else more_text n n ++ codes "\n"

-- the lines of the first of these hits, how many more there are, and an empty line
abbrev pub some_lines : Screen → List Finding → List ℕ
some_lines screen hits =
    flat_map (screen_line screen) (take most_shown hits)
    ++ (more_hits_line (length hits - most_shown) ++ codes "\n")

-- the lines of these hits; nothing if there are no hits
abbrev pub hit_lines : Screen → List Finding → List ℕ
hit_lines screen [] = []
hit_lines screen (hit ∷ hits) = some_lines screen (hit ∷ hits)

abbrev pub terminal_of : Screen → List Finding → List ℕ
terminal_of screen findings = hit_lines screen (hits_among findings)
