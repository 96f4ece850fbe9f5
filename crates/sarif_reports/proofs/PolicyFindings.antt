-- The reports of results that the conditions of a policy report.
use Rattle.std.proofs.Common.{◌≡◌, ◌<◌, ◌≤◌, ◌+◌, ◌^◌, ◌==◌, ℕ, Bool, true, List, Option, None, codes, flat_map, length, ap, sym, ◌∙◌, subst, arith}
use Rattle.std.specs.Prelude.{nat_lt}
use Rattle.std.specs.List.{All, AllByRecursion, count_by}
use Rattle.std.proofs.lemmas.List.Elements.{All-contains, All-from_recursion, recursion_from_All}
use Rattle.serde_json.specs.Data.{Data}
use Rattle.sarif_conditions.specs.Facts.{facts_of, verdict_told}
use Rattle.sarif_conditions.specs.Judged.{Judged}
use Rattle.sarif_counts.specs.Impacts.{is_hit}
use Rattle.sarif_counts.specs.declared.gate_verdict.Impact.{Impact}
use Rattle.sarif_findings.specs.Reported.{reported_of}
use Rattle.sarif_findings.specs.declared.finding.Finding.{Finding}
use Rattle.sarif_findings.specs.declared.reporting.Reporting.{Reporting}
use Rattle.sarif_findings.specs.declared.reporting.Show.{Show}
use Rattle.sarif_findings.proofs.ToldFindings.{IsTold}
use Rattle.sarif_policy.specs.declared.condition.GateCondition.{GateCondition}
use Rattle.sarif_shown.specs.Listed.{listed}
use Rattle.sarif_shown.specs.PolicyLaws.{AreRuled, is_fail}
use Rattle.sarif_shown.specs.Stopping.{is_marked}
use Rattle.sarif_shown.specs.declared.stopping.Stopping.TheVariants.{MarkedHit}
use Rattle.sarif_shown.proofs.ListedMore.{counted_listed, length_listed, listed_told}
use Rattle.sarif_shown.proofs.PolicyCounted.{policy_hits, policy_verdict}
use Rattle.sarif_reports.specs.JunitLaws.{cases_of, occurrences}
use Rattle.sarif_reports.specs.JunitReport.{failures_in, skipped_in}
use Rattle.sarif_reports.specs.MarkdownLaws.{AreLinks, have_bars}
use Rattle.sarif_reports.specs.MarkdownReport.{in_table, result_row, row_text}
use Rattle.sarif_reports.specs.PolicyReports.{IsFindingOf, document_of_policy}
use Rattle.sarif_reports.proofs.JunitApart.{Piece, case_tag, document_piece, failure_tag, skipped_tag}
use Rattle.sarif_reports.proofs.JunitLaws.{both, whole}
use Rattle.sarif_reports.proofs.RowsApart.{tabled_rows}
use Rattle.sarif_reports.proofs.TableRows.{rows_short}
use Rattle.sarif_reports.proofs.Tabled.{IsTabled, all_tabled}

-- ---- what is true of a finding, regardless of what it does to the gate

retold : (g : Finding) (i : Impact) → IsTold g → IsTold (record g { impact = i })
retold g i told =
    record { tool = told.tool; rule = told.rule; message = told.message; path = told.path; line = told.line; column = told.column }

retabled : (g : Finding) (i : Impact) → IsTabled g → IsTabled (record g { impact = i })
retabled g i is =
    record { told = retold g i is.told; address = is.address; label = is.label; code = is.code; line = is.line }

of_tabled : (reporting : Reporting) (log : Data) (f : Finding) → IsFindingOf reporting log f → IsTabled f
of_tabled reporting log f of =
    subst IsTabled (sym of.2)
    (retabled of.0 f.impact
    (All-contains IsTabled (reported_of reporting log) of.0
    (All-from_recursion IsTabled (reported_of reporting log) (all_tabled None reporting log)) of.1))

each_tabled : (reporting : Reporting) (log : Data) (fs : List Finding) → All (IsFindingOf reporting log) fs → AllByRecursion IsTabled fs
each_tabled reporting log fs of = recursion_from_All IsTabled fs (λ k d within. of_tabled reporting log _ (of k d within))

each_told : (reporting : Reporting) (log : Data) (fs : List Finding) → All (IsFindingOf reporting log) fs → AllByRecursion IsTold fs
each_told reporting log fs of = recursion_from_All IsTold fs (λ k d within. (of_tabled reporting log _ (of k d within)).told)

-- ---- JUnit XML

piece : (reporting : Reporting) (log : Data) (fs : List Finding) → All (IsFindingOf reporting log) fs → length fs < 2 ^ 64
    → Piece (cases_of (length (listed fs))) (failures_in MarkedHit (listed fs)) (skipped_in MarkedHit (listed fs)) (document_of_policy fs)
piece reporting log fs of small =
    let size = length_listed fs in
    document_piece MarkedHit (listed fs) (listed_told fs (each_told reporting log fs of)) (omega (arith, size, small))

pub policy_cases : (reporting : Reporting) (log : Data) (fs : List Finding) → All (IsFindingOf reporting log) fs → length fs < 2 ^ 64
    → occurrences (codes "<testcase ") (document_of_policy fs) ≡ cases_of (length fs)
policy_cases reporting log fs of small =
    whole case_tag (document_of_policy fs) _ (piece reporting log fs of small).cases ∙ ap cases_of (length_listed fs)

failures_are : (reporting : Reporting) (log : Data) (fs : List Finding) → All (IsFindingOf reporting log) fs → length fs < 2 ^ 64
    → occurrences (codes "<failure ") (document_of_policy fs) ≡ failures_in MarkedHit (listed fs)
failures_are reporting log fs of small = whole failure_tag (document_of_policy fs) _ (piece reporting log fs of small).failures

pub policy_shown : (show : Show) (cs : List GateCondition) (rs : List Judged) (reporting : Reporting) (log : Data) (fs : List Finding)
    → AreRuled show cs rs fs → All (IsFindingOf reporting log) fs → length fs < 2 ^ 64
    → occurrences (codes "<failure ") (document_of_policy fs) + occurrences (codes "<skipped ") (document_of_policy fs) ≡ (facts_of cs rs).hits
policy_shown show cs rs reporting log fs are of small =
    let failures = failures_are reporting log fs of small in
    let skips = whole skipped_tag (document_of_policy fs) _ (piece reporting log fs of small).skips in
    let hits = both MarkedHit (listed fs) in
    let listed_hits = counted_listed (λ f. is_hit f.impact) fs in
    let told = policy_hits show cs rs fs are in
    omega (arith, failures, skips, hits, listed_hits, told)

pub policy_fails : (show : Show) (cs : List GateCondition) (rs : List Judged) (reporting : Reporting) (log : Data) (fs : List Finding)
    → AreRuled show cs rs fs → All (IsFindingOf reporting log) fs → length fs < 2 ^ 64
    → nat_lt 0 (occurrences (codes "<failure ") (document_of_policy fs)) ≡ is_fail (verdict_told (facts_of cs rs))
policy_fails show cs rs reporting log fs are of small =
    ap (nat_lt 0) (failures_are reporting log fs of small ∙ counted_listed (λ f. is_marked f.impact) fs) ∙ policy_verdict show cs rs fs are

-- ---- Markdown

pub policy_bars : (link : Option (List ℕ)) (room : ℕ) (reporting : Reporting) (log : Data) (fs : List Finding) → AreLinks link
    → All (IsFindingOf reporting log) fs → have_bars 8 0 (flat_map (row_text link) (in_table link room fs)) ≡ true
policy_bars link room reporting log fs links of = (tabled_rows link room fs links (each_tabled reporting log fs of)).bars

pub policy_lines : (link : Option (List ℕ)) (room : ℕ) (reporting : Reporting) (log : Data) (fs : List Finding) → AreLinks link
    → All (IsFindingOf reporting log) fs
    → count_by (λ b. b == 10) (flat_map (row_text link) (in_table link room fs)) ≡ length (in_table link room fs)
policy_lines link room reporting log fs links of = (tabled_rows link room fs links (each_tabled reporting log fs of)).ends

pub policy_rows : (link : Option (List ℕ)) (coded : Bool) (reporting : Reporting) (log : Data) (fs : List Finding) → AreLinks link
    → All (IsFindingOf reporting log) fs → All (λ f. length (result_row link coded f) ≤ 48000) fs
policy_rows link coded reporting log fs links of =
    All-from_recursion (λ f. length (result_row link coded f) ≤ 48000) fs (rows_short link coded fs links (each_tabled reporting log fs of))
