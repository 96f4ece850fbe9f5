-- The report for GitLab, read as JSON.
use Rattle.std.proofs.Common.{◌≡◌, ◌<◌, ◌≤◌, ◌^◌, ◌++◌, ℕ, List, [], ◌∷◌, Option, Some, None, IfSome, unwrap_or, sym, ap, ◌∙◌, arith}
use Rattle.std.proofs.Math.Nat.{max-le}
use Rattle.std.specs.List.{AllByRecursion}
use Rattle.json.specs.Json.{document}
use Rattle.json.specs.Tree as tree
use Rattle.json.proofs.Printed.Trees.{document-print}
use Rattle.json.proofs.Printed.Decimals.{IsNumber-decimal}
use Rattle.serde_json.specs.Data.{Data, array}
use Rattle.serde_json.specs.Written.{outline, items_outline}
use Rattle.serde_json.proofs.Texts.{print-outline}
use Rattle.sarif_findings.specs.declared.finding.Finding.{Finding}
use Rattle.sarif_findings.specs.declared.reporting.Reporting.{Reporting}
use Rattle.sarif_reports.specs.GitlabReport.{quality_of, items_after, mark_of, rank_among, gitlab_of}
use Rattle.sarif_shown.specs.ReportedInside.{reported_by}
use Rattle.sarif_findings.proofs.ToldFindings.{IsTold}
use Rattle.sarif_scope.specs.declared.gated.GatedChange.{GatedChange}
use Rattle.sarif_shown.proofs.FindingsInside.{told_inside}

line_fits : (o : Option ℕ) → IfSome o (λ n. n < 2 ^ 64) → unwrap_or o 1 < 2 ^ 64
line_fits None h = omega arith
line_fits (Some n) h = h

quality_numbers : (f : Finding) (mark : List ℕ) → IsTold f → tree.HasNumbers (outline (quality_of f mark))
unfolding quality_of
quality_numbers f mark told = (tt, (tt, (tt, (((IsNumber-decimal (unwrap_or f.line 1) (line_fits f.line told.line), tt), (tt, tt)), (tt, tt)))))

quality_depth : (f : Finding) (mark : List ℕ) → tree.depth (outline (quality_of f mark)) ≤ 3
unfolding quality_of
quality_depth f mark = omega arith

items_numbers : (before fs : List Finding) → AllByRecursion IsTold fs → tree.ItemsHaveNumbers (items_outline (items_after before fs))
items_numbers before [] h = tt
items_numbers before (f ∷ fs) h = (quality_numbers f _ h.0, items_numbers (before ++ f ∷ []) fs h.1)

items_depth : (before fs : List Finding) → tree.items_depth (items_outline (items_after before fs)) ≤ 3
items_depth before [] = omega arith
items_depth before (f ∷ fs) = max-le (quality_depth f (mark_of f (rank_among before f))) (items_depth (before ++ f ∷ []) fs)

pub array_read : (change : Option GatedChange) (reporting : Reporting) (log : Data)
    → document (gitlab_of (reported_by change reporting log)) ≡ Some (outline (array (items_after [] (reported_by change reporting log))))
array_read change reporting log =
    let fs = reported_by change reporting log in
    let shallow = items_depth [] fs in
    ap document (sym (print-outline (array (items_after [] fs))))
    ∙ document-print (outline (array (items_after [] fs))) (items_numbers [] fs (told_inside change reporting log)) (omega (arith, shallow))
