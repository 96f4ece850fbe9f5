use Rattle.std.proofs.Common.{length, ap, arith}
use Rattle.std.proofs.lemmas.List.{length-map, length-take}
use Rattle.sarif_findings.specs.declared.finding.Finding.{Finding}
use Rattle.sarif_page.proofs.html_tables.rows_of.Goals as goal

pub overflow_sub-len : goal.overflow_sub-len
overflow_sub-len c =
    let rows = c.in_ok-hit_rows.hit_rows.items in
    omega (arith, length-map rows (λ f. f.now), ap length c.in_ok-hit_rows.ensures, length-take {A = Finding})
