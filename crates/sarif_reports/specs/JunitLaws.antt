-- Properties of the report in JUnit XML, for any strings of a log.
use Rattle.std.specs.Prelude.{◌≡◌, ℕ, ◌+◌, Bool, true, ◌||◌, ◌==◌, nat_eq, List, [], ◌∷◌, ◌++◌, Option, None, encode_utf8_all, if◌then◌else◌}
use Rattle.std.specs.List.{list_all, starts_with}
use Rattle.serde_json.specs.Data.{Data}
use Rattle.sarif_model.specs.Run.{runs_of}
use Rattle.sarif_scope.specs.Counted.{verdict_by}
use Rattle.sarif_scope.specs.declared.gated.GatedChange.{GatedChange}
use Rattle.sarif_findings.specs.declared.finding.Finding.{Finding}
use Rattle.sarif_findings.specs.declared.reporting.Reporting.{Reporting}
use Rattle.sarif_shown.specs.ReportedInside.{reported_by}
use Rattle.sarif_findings.specs.Shown.{is_between}
use Rattle.sarif_reports.specs.JunitReport.{case_name, junit_document}
use Rattle.sarif_shown.specs.Listed.{listed}
use Rattle.sarif_shown.specs.Stopping.{stopping_by}

-- how often a string occurs in another
abbrev pub occurrences : List ℕ → List ℕ → ℕ
occurrences part [] = 0
occurrences part (b ∷ bs) =
    if starts_with nat_eq (b ∷ bs) part then occurrences part bs + 1 else occurrences part bs

-- the number of test cases for this number of results: at least one
abbrev pub cases_of : ℕ → ℕ
cases_of n = if n == 0 then 1 else n

-- the report of a merged log, with a change or without one
abbrev pub document_of : Option GatedChange → Reporting → Data → List ℕ
document_of change reporting log =
    junit_document (stopping_by None (verdict_by change reporting.policy (runs_of log)))
    (listed (reported_by change reporting log))

-- the names of these results of a suite, which follow the earlier ones
abbrev pub names_after : List Finding → List Finding → List (List ℕ)
names_after earlier [] = []
names_after earlier (f ∷ fs) = case_name earlier f ∷ names_after (earlier ++ f ∷ []) fs

-- whether a character may occur in a document (XML 1.0, "Characters")
abbrev pub is_xml_char : ℕ → Bool
is_xml_char c =
    c == 9 || (c == 10 || (c == 13 || (is_between 0x20 0xD7FF c
    || (is_between 0xE000 0xFFFD c || is_between 0x10000 0x10FFFF c))))

-- text of such characters
abbrev pub IsXmlText : List ℕ → Type 0
IsXmlText text =
    (cs : List ℕ) × (encode_utf8_all cs ≡ text) × (list_all is_xml_char cs ≡ true)
