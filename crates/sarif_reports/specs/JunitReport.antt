-- The report for services that read JUnit XML: a test case per result, in a test suite per tool. A hit that stops the
-- change is a test case that fails, so there is one exactly if the gate fails.
use Rattle.std.specs.Prelude.{ℕ, ◌+◌, Bool, true, false, not, ◌||◌, ◌==◌, nat_eq, nat_lt, bytes_eq, List, [], ◌∷◌, ◌++◌, length, Option, Some, None, codes, flat_map, filter, unwrap_or, if◌then◌else◌}
use Rattle.std.specs.Fmt.{decimal}
use Rattle.std.specs.List.{count_by, ends_with}
use Rattle.sarif_model.specs.Level.{level_name}
use Rattle.sarif_shown.specs.declared.stopping.Stopping.{Stopping}
use Rattle.sarif_counts.specs.Impacts.{is_hit}
use Rattle.sarif_findings.specs.declared.finding.Finding.{Finding}
use Rattle.sarif_findings.specs.Finding.{spot_text}
use Rattle.sarif_shown.specs.declared.escaping.Escaping.TheVariants.{Page}
use Rattle.sarif_shown.specs.Escaped.{escaped}
use Rattle.sarif_shown.specs.Facts.{Facts}
use Rattle.sarif_shown.specs.Listed.{listed}
use Rattle.sarif_shown.specs.Ruled.{gate_stopping}
use Rattle.sarif_shown.specs.Stopping.{is_let_pass, stops}
use Rattle.sarif_shown.specs.TextReport.{result_line}

-- ---- names

abbrev pub colon_rule : List ℕ → List ℕ
colon_rule [] = []
colon_rule (b ∷ bs) = codes ": " ++ (b ∷ bs)

-- PLACE: RULE, or PLACE if there is no rule
abbrev pub plain_name : Finding → List ℕ
plain_name finding = spot_text finding ++ colon_rule finding.rule

-- whether a name ends as one with a number does
abbrev pub ends_numbered : List ℕ → Bool
ends_numbered name = ends_with nat_eq name (codes ")")

-- the name of the n-th result with this plain name
unfoldable pub nth_name : List ℕ → ℕ → List ℕ
nth_name name n =
    if nat_lt 1 n || ends_numbered name then name ++ (codes " (" ++ (decimal n ++ codes ")"))
    else name

-- how many of these results have this plain name
abbrev pub named_among : List Finding → List ℕ → ℕ
named_among findings name = count_by (λ f. bytes_eq name (plain_name f)) findings

-- the name of a result that follows the earlier ones of its suite
abbrev pub case_name : List Finding → Finding → List ℕ
case_name earlier finding =
    nth_name (plain_name finding) (named_among earlier (plain_name finding) + 1)

-- ---- a test case

-- a string after the beginning of an attribute, or of an element's text
unfoldable pub attribute : List ℕ → List ℕ → List ℕ
attribute begin value = begin ++ escaped Page value

abbrev pub file_attribute : Option (List ℕ) → List ℕ
file_attribute None = []
file_attribute (Some path) = attribute (codes " file=\"") path ++ codes "\""

abbrev pub line_attribute : Option ℕ → List ℕ
line_attribute None = []
line_attribute (Some line) = codes " line=\"" ++ (decimal line ++ codes "\"")

-- the path, or the tool if there is no path
abbrev pub class_of : Finding → List ℕ
class_of finding = unwrap_or finding.path finding.tool

-- <testcase name="NAME" classname="CLASS" file="PATH" line="LINE"
unfoldable pub case_begin : List ℕ → Finding → List ℕ
case_begin name finding =
    attribute (codes "<testcase name=\"") name
    ++ (attribute (codes "\" classname=\"") (class_of finding)
    ++ (codes "\"" ++ (file_attribute finding.path ++ line_attribute finding.line)))

-- the line of the text report, after the tag that it follows
unfoldable pub shown_line : Finding → List ℕ
shown_line finding = attribute (codes "\">") (result_line finding)

unfoldable pub failure_end : List ℕ
failure_end = codes "</failure></testcase>\n"

-- a hit that stops the change
unfoldable pub failure : Finding → List ℕ
failure finding =
    attribute (codes "><failure type=\"") (level_name finding.level)
    ++ (attribute (codes "\" message=\"") finding.message
    ++ (shown_line finding ++ failure_end))

unfoldable pub skipped_end : List ℕ
skipped_end = codes "\"/></testcase>\n"

-- another hit: the policy permits it
unfoldable pub skipped : Finding → List ℕ
skipped finding =
    attribute (codes "><skipped message=\"") finding.message ++ skipped_end

-- how a test case ends, by whether its result stops the change, and whether it is a hit: a result that isn't a hit passes
abbrev pub end_by : Bool → Bool → Finding → List ℕ
end_by true hit finding = failure finding
end_by false true finding = skipped finding
end_by false false finding = codes "/>\n"

abbrev pub case_end : Stopping → Finding → List ℕ
case_end stopping finding =
    end_by (stops stopping finding.impact) (is_hit finding.impact) finding

abbrev pub test_case : Stopping → List ℕ → Finding → List ℕ
test_case stopping name finding = case_begin name finding ++ case_end stopping finding

-- the test cases of these results of a suite, which follow the earlier ones
abbrev pub cases_after : Stopping → List Finding → List Finding → List ℕ
cases_after stopping earlier [] = []
cases_after stopping earlier (f ∷ fs) =
    test_case stopping (case_name earlier f) f ++ cases_after stopping (earlier ++ f ∷ []) fs

-- ---- suites

-- each tool once, in the order of first appearance
abbrev pub tools_of : List Finding → List (List ℕ)
tools_of [] = []
tools_of (f ∷ fs) = f.tool ∷ filter (λ tool. not (bytes_eq f.tool tool)) (tools_of fs)

-- the results of a tool, in order
abbrev pub results_of : List Finding → List ℕ → List Finding
results_of findings tool = filter (λ f. bytes_eq tool f.tool) findings

abbrev pub failures_in : Stopping → List Finding → ℕ
failures_in stopping findings = count_by (λ f. stops stopping f.impact) findings

abbrev pub skipped_in : Stopping → List Finding → ℕ
skipped_in stopping findings = count_by (λ f. is_let_pass stopping f.impact) findings

-- a number after the beginning of an attribute
unfoldable pub counted : List ℕ → ℕ → List ℕ
counted begin n = begin ++ decimal n

-- " tests="N" failures="F
unfoldable pub test_counts : Stopping → List Finding → List ℕ
test_counts stopping findings =
    counted (codes "\" tests=\"") (length findings)
    ++ counted (codes "\" failures=\"") (failures_in stopping findings)

-- <testsuite name="TOOL" tests="N" failures="F" skipped="S">
unfoldable pub suite_begin : Stopping → List ℕ → List Finding → List ℕ
suite_begin stopping tool findings =
    attribute (codes "<testsuite name=\"") tool ++ (test_counts stopping findings
    ++ (counted (codes "\" skipped=\"") (skipped_in stopping findings) ++ codes "\">\n"))

unfoldable pub suite_end : List ℕ
suite_end = codes "</testsuite>\n"

-- the suite of a tool with these results
abbrev pub suite_of : Stopping → List ℕ → List Finding → List ℕ
suite_of stopping tool findings =
    suite_begin stopping tool findings ++ (cases_after stopping [] findings ++ suite_end)

-- the suites of these results
abbrev pub suites_in : Stopping → List Finding → List ℕ
suites_in stopping findings =
    flat_map (λ tool. suite_of stopping tool (results_of findings tool)) (tools_of findings)

unfoldable pub document_head : List ℕ
document_head =
    codes "<?xml version=\"1.0\" encoding=\"UTF-8\"?>\n<testsuites name=\"sarif_gate"

unfoldable pub document_begin : Stopping → List Finding → List ℕ
document_begin stopping findings =
    document_head ++ (test_counts stopping findings ++ codes "\">\n")

unfoldable pub document_end : List ℕ
document_end = codes "</testsuites>\n"

-- the document where nothing is reported: a test case that passes, since some services reject a document without one
unfoldable pub passed_document : List ℕ
passed_document =
    codes "<?xml version=\"1.0\" encoding=\"UTF-8\"?>\n"
    ++ (codes "<testsuites name=\"sarif_gate\" tests=\"1\" failures=\"0\">\n"
    ++ (codes "<testsuite name=\"sarif_gate\" tests=\"1\" failures=\"0\" skipped=\"0\">\n"
    ++ (codes "<testcase name=\"gate\" classname=\"sarif_gate\"/>\n"
    ++ codes "</testsuite>\n</testsuites>\n")))

-- the document of these results
abbrev pub junit_document : Stopping → List Finding → List ℕ
junit_document stopping findings =
    if length findings == 0 then passed_document
    else document_begin stopping findings ++ (suites_in stopping findings ++ document_end)

abbrev pub junit_of : Facts → List ℕ
junit_of facts = junit_document (gate_stopping facts) (listed facts.findings)
