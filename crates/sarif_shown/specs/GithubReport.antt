-- The report for GitHub Actions: one workflow command per result, those of the hits first.
use Rattle.std.specs.Prelude.{ℕ, List, [], ◌∷◌, ◌++◌, Option, Some, None, codes, flat_map}
use Rattle.std.specs.Fmt.{decimal}
use Rattle.sarif_model.specs.declared.kinds.Level.{Level}
use Rattle.sarif_model.specs.declared.kinds.Level.TheVariants.{NoLevel, Note, Warning, Error}
use Rattle.sarif_findings.specs.declared.finding.Finding.{Finding}
use Rattle.sarif_shown.specs.declared.escaping.Escaping.TheVariants.{Message, Property}
use Rattle.sarif_shown.specs.Escaped.{escaped}
use Rattle.sarif_shown.specs.Listed.{listed}

abbrev pub command_of : Level → List ℕ
command_of Error = codes "::error "
command_of Warning = codes "::warning "
command_of Note = codes "::notice "
command_of NoLevel = codes "::notice "

-- a path, if there is one
abbrev pub file_property : Option (List ℕ) → List ℕ
file_property None = []
file_property (Some path) = codes "file=" ++ (escaped Property path ++ codes ",")

-- a number under this name, if there is one
abbrev pub number_property : List ℕ → Option ℕ → List ℕ
number_property name None = []
number_property name (Some n) = name ++ (decimal n ++ codes ",")

-- RULE (TOOL), or TOOL if there is no rule
abbrev pub title : List ℕ → List ℕ → List ℕ
title [] tool = escaped Property tool
title (b ∷ bs) tool =
    escaped Property (b ∷ bs) ++ (codes " (" ++ (escaped Property tool ++ codes ")"))

abbrev pub position_of : Finding → List ℕ
position_of finding =
    file_property finding.path
    ++ (number_property (codes "line=") finding.line
    ++ number_property (codes "col=") finding.column)

abbrev pub title_and_message : Finding → List ℕ
title_and_message finding =
    codes "title=" ++ (title finding.rule finding.tool
    ++ (codes "::" ++ (escaped Message finding.message ++ codes "\n")))

-- ::COMMAND file=PATH,line=LINE,col=COLUMN,title=TITLE::MESSAGE
abbrev pub github_line : Finding → List ℕ
github_line finding =
    command_of finding.level ++ (position_of finding ++ title_and_message finding)

abbrev pub github_of : List Finding → List ℕ
github_of findings = flat_map github_line (listed findings)
