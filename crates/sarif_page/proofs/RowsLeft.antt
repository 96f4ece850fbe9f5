-- The results that have no row of a page.
use Rattle.std.proofs.Common.{◌≡◌, ◌+◌, ◌-◌, not, List, length, ◌∙◌, arith}
use Rattle.std.specs.List.{count_by}
use Rattle.std.proofs.lemmas.List.{length-take}
use Rattle.sarif_counts.specs.Impacts.{is_hit}
use Rattle.sarif_findings.specs.declared.finding.Finding.{Finding}
use Rattle.sarif_shown.specs.Listed.{hits_among, others_among}
use Rattle.sarif_shown.proofs.ListedMore.{length_hits, length_others}
use Rattle.sarif_page.specs.HtmlRows.{by_file, hit_rows, most_rows, other_rows, without_row}
use Rattle.sarif_page.proofs.RowsByFile.{length_by_file}

pub hits_counted : (fs : List Finding) → length (hit_rows fs) + without_row (length (hits_among fs)) (hit_rows fs) ≡ count_by (λ f. is_hit f.impact) fs
unfolding hit_rows
hits_counted fs =
    let rows = length-take most_rows (by_file (hits_among fs)) in
    let all = length_by_file (hits_among fs) in
    let whole : length (hit_rows fs) + (length (hits_among fs) - length (hit_rows fs)) ≡ length (hits_among fs) = omega (arith, rows, all) in
    whole ∙ length_hits fs

pub others_counted : (fs : List Finding) → length (other_rows fs) + without_row (length (others_among fs)) (other_rows fs) ≡ count_by (λ f. not (is_hit f.impact)) fs
unfolding other_rows
others_counted fs =
    let rows = length-take (most_rows - length (hit_rows fs)) (by_file (others_among fs)) in
    let all = length_by_file (others_among fs) in
    let whole : length (other_rows fs) + (length (others_among fs) - length (other_rows fs)) ≡ length (others_among fs) = omega (arith, rows, all) in
    whole ∙ length_others fs
