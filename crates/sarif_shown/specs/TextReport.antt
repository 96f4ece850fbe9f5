-- The report for people, editors and problem matchers: one line per result, those of the hits first.
use Rattle.std.specs.Prelude.{ℕ, List, [], ◌∷◌, ◌++◌, codes, flat_map}
use Rattle.sarif_model.specs.Level.{level_name}
use Rattle.sarif_model.specs.State.{state_name}
use Rattle.sarif_findings.specs.declared.finding.Finding.{Finding}
use Rattle.sarif_findings.specs.Finding.{spot_text}
use Rattle.sarif_shown.specs.Listed.{listed}

-- the rule in brackets, if there is one
abbrev pub bracketed : List ℕ → List ℕ
bracketed [] = []
bracketed (b ∷ bs) = codes " [" ++ ((b ∷ bs) ++ codes "]")

abbrev pub level_and_message : Finding → List ℕ
level_and_message finding =
    codes ": " ++ (level_name finding.level ++ (codes ": " ++ finding.message))

abbrev pub tool_and_state : Finding → List ℕ
tool_and_state finding =
    codes " (" ++ (finding.tool ++ (codes ", " ++ (state_name finding.state ++ codes ")")))

-- PLACE: LEVEL: MESSAGE [RULE] (TOOL, STATE)
abbrev pub result_line : Finding → List ℕ
result_line finding =
    spot_text finding ++ (level_and_message finding
    ++ (bracketed finding.rule ++ tool_and_state finding))

-- the line of a result, with the end of the line
abbrev pub text_line : Finding → List ℕ
text_line finding = result_line finding ++ codes "\n"

abbrev pub text_lines_of : List Finding → List ℕ
text_lines_of findings = flat_map text_line (listed findings)
