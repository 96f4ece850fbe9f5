use Rattle.std.proofs.Common.{◌≡◌, ◌≤◌, ◌++◌, ◌∙◌, List, ap, arith, drop, flat_map, length, length-append, map, option_map, string_bytes, subst, sym, take}
use Rattle.std.specs.List.{enumerate_from}
use Rattle.std.specs.Result.{IfOk, OnOk}
use Rattle.std.proofs.lemmas.List.{take-append-drop, take-map}
use Rattle.std.proofs.lemmas.Result.{IfOk-weaker}
use Rattle.sarif_findings.specs.declared.finding.Finding.{Finding}
use Rattle.sarif_reports.specs.MarkdownReport.{fitting, most_rows, row_text}
use Rattle.sarif_reports.proofs.markdown_table.push_rows.Goals as goal

pub returns-clause-rows : goal.returns-clause-rows
returns-clause-rows c =
    let link = option_map (λ link. link.now) c.args.link in
    let room = c.args.room in
    let first = ap (map (λ f. f.now)) c.first_rows.ensures ∙ sym (take-map (λ f. f.now) most_rows c.args.listed.now) in
    subst
    (λ (fs : List Finding). OnOk c.push_fitting.result
    (string_bytes c.push_fitting.new.text ≡ string_bytes c.args.text.now ++ flat_map (row_text link) (fitting link room (enumerate_from 0 fs))))
    first c.push_fitting.ensures.rows

pub returns-clause-count : goal.returns-clause-count
returns-clause-count c =
    let link = option_map (λ link. link.now) c.args.link in
    let room = c.args.room in
    let first = ap (map (λ f. f.now)) c.first_rows.ensures ∙ sym (take-map (λ f. f.now) most_rows c.args.listed.now) in
    subst (λ (fs : List Finding). IfOk c.push_fitting.result (λ n. n ≡ length (fitting link room (enumerate_from 0 fs)))) first
    c.push_fitting.ensures.count

pub returns-clause-few : goal.returns-clause-few
returns-clause-few c =
    let first = ap length c.first_rows.ensures in
    let parts = length-append (take most_rows c.args.listed.now) (drop most_rows c.args.listed.now) in
    let whole = ap length (take-append-drop most_rows c.args.listed.now) in
    IfOk-weaker c.push_fitting.result _ (λ n. n ≤ length c.args.listed.now) (λ n few. omega (arith, few, first, parts, whole)) c.push_fitting.ensures.few
