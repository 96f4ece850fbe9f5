-- What the help says about the options of the outputs.
use Rattle.std.specs.Prelude.{ℕ, List, [], ◌++◌, codes}
use Rattle.sarif_reports.specs.declared.report.Report.{Report}
use Rattle.sarif_reports.specs.declared.report.Report.TheVariants as report

-- what it says about the option of each, or nothing if it has none
abbrev pub help_of : Report → List ℕ
help_of report.Suppressions =
    codes "Write a new suppression file, made with --accept, --prune or both. It\n"
    ++ codes "may replace the file of --suppress"
help_of report.Known =
    codes "Write a log of what is known, as the baseline of later merges. It may\n"
    ++ codes "replace the only --baseline"
help_of report.Text =
    codes "Write one line per reported result, for people, editors and problem\n" ++ codes "matchers"
help_of report.Github = codes "Write one workflow command of GitHub Actions per reported result"
help_of report.Markdown =
    codes "Write the verdict, the counts and a table, for job summaries and comments"
help_of report.Gitlab = codes "Write a JSON report for GitLab's code quality widget"
help_of report.Html = codes "Write an HTML page that needs no other file"
help_of report.Junit =
    codes "Write JUnit XML with a test case per reported result, for build services"
help_of report.Azure = codes "Write one logging command of Azure Pipelines per reported result"
help_of report.Unused =
    codes "Write one line per entry of the suppression file that matches no result.\n"
    ++ codes "Needs --suppress"
help_of (report.Terminal screen) = []
