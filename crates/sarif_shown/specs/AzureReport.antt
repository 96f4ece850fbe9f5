-- The report for Azure Pipelines: one logging command per result (`task.logissue`).
use Rattle.std.specs.Prelude.{ℕ, List, [], ◌∷◌, ◌++◌, Option, Some, None, codes, flat_map}
use Rattle.sarif_model.specs.declared.kinds.Level.{Level}
use Rattle.sarif_model.specs.declared.kinds.Level.TheVariants.{NoLevel, Note, Warning, Error}
use Rattle.sarif_model.specs.Level.{level_name}
use Rattle.sarif_model.specs.State.{state_name}
use Rattle.std.specs.Fmt.{decimal}
use Rattle.sarif_findings.specs.declared.finding.Finding.{Finding}
use Rattle.sarif_shown.specs.declared.escaping.Escaping.TheVariants.{IssueMessage, IssueProperty}
use Rattle.sarif_shown.specs.Escaped.{escaped}
use Rattle.sarif_shown.specs.Listed.{listed}

-- an issue is an error or a warning
abbrev pub issue_type : Level → List ℕ
issue_type Error = codes "type=error;"
issue_type Warning = codes "type=warning;"
issue_type Note = codes "type=warning;"
issue_type NoLevel = codes "type=warning;"

-- a property with this name
unfoldable pub property : List ℕ → List ℕ → List ℕ
property name value = name ++ (escaped IssueProperty value ++ codes ";")

-- a path, if there is one
abbrev pub source_path : Option (List ℕ) → List ℕ
source_path None = []
source_path (Some path) = property (codes "sourcepath=") path

-- a number under this name, if there is one
abbrev pub issue_number : List ℕ → Option ℕ → List ℕ
issue_number name None = []
issue_number name (Some n) = name ++ (decimal n ++ codes ";")

-- a rule, if there is one
abbrev pub issue_code : List ℕ → List ℕ
issue_code [] = []
issue_code (b ∷ bs) = property (codes "code=") (b ∷ bs)

-- type=TYPE;sourcepath=PATH;linenumber=LINE;columnnumber=COLUMN;code=RULE;
unfoldable pub issue_properties : Finding → List ℕ
issue_properties finding =
    issue_type finding.level ++ (source_path finding.path
    ++ (issue_number (codes "linenumber=") finding.line
    ++ (issue_number (codes "columnnumber=") finding.column ++ issue_code finding.rule)))

unfoldable pub message_and_tool : Finding → List ℕ
message_and_tool finding =
    escaped IssueMessage finding.message
    ++ (codes " (" ++ escaped IssueMessage finding.tool)

unfoldable pub level_and_state : Finding → List ℕ
level_and_state finding =
    codes ", " ++ (level_name finding.level
    ++ (codes ", " ++ (state_name finding.state ++ codes ")")))

unfoldable pub issue_begin : List ℕ
issue_begin = codes "##vso[task.logissue "

-- ##vso[task.logissue PROPERTIES]MESSAGE (TOOL, LEVEL, STATE)
unfoldable pub azure_line : Finding → List ℕ
azure_line finding =
    issue_begin ++ (issue_properties finding ++ (codes "]" ++ (message_and_tool finding
    ++ (level_and_state finding ++ codes "\n"))))

-- the lines of these results
abbrev pub azure_lines_of : List Finding → List ℕ
azure_lines_of findings = flat_map azure_line findings

abbrev pub azure_of : List Finding → List ℕ
azure_of findings = azure_lines_of (listed findings)
