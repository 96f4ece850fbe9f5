use Rattle.std.proofs.Common.{◌≡◌, ◌++◌, ◌∙◌, List, ℕ, ap, append_assoc, drop, flat_map, length, map, option_map, string_bytes, sym}
use Rattle.std.proofs.lemmas.List.{drop-map}
use Rattle.sarif_findings.specs.declared.finding.Finding.{Finding}
use Rattle.sarif_shown.specs.Listed.{listed}
use Rattle.sarif_reports.specs.MarkdownReport.{head_for, in_table, left_out, others_line, paragraph, row_text, rows_of}
use Rattle.sarif_reports.proofs.markdown_table.push_results.Goals as goal

regroup : (old head rows more : List ℕ) → ((old ++ head) ++ rows) ++ more ≡ old ++ (head ++ (rows ++ more))
regroup old head rows more = simp append_assoc

pub returns : goal.returns
returns c =
    let fs = c.args.findings.now in
    let link = option_map (λ link. link.now) c.args.link in
    let room = c.args.room in
    let slice = c.as_slice-listed.result.now in
    let old : List ℕ = string_bytes c.args.text.now in
    let written : List ℕ = flat_map (row_text link) (in_table link room fs) in
    let head : List ℕ = head_for (length (in_table link room fs)) in
    let more : List ℕ = paragraph (others_line (left_out link room fs)) in
    let same : map (λ f. f.now) slice ≡ listed fs = ap (map (λ f. f.now)) c.as_slice-listed.ensures.value ∙ c.in_ok-listed.ensures in
    let number : c.in_ok-count.count ≡ length (in_table link room fs) =
    c.in_ok-count.ensures.count ∙ ap (λ (gs : List Finding). length (rows_of link room gs)) same in
    let rest : map (λ f. f.now) (drop c.in_ok-count.count slice) ≡ left_out link room fs =
    sym (drop-map (λ f. f.now) c.in_ok-count.count slice) ∙ ap (λ n. drop n (map (λ f. f.now) slice)) number
    ∙ ap (λ (gs : List Finding). drop (length (in_table link room fs)) gs) same in
    let of_rows : string_bytes c.push_rows.new.text ≡ written =
    c.in_ok-count.ensures.rows ∙ ap (λ (t : List ℕ). t ++ flat_map (row_text link) (rows_of link room (map (λ f. f.now) slice))) c.new-rows.ensures.bytes
    ∙ ap (λ (gs : List Finding). flat_map (row_text link) (rows_of link room gs)) same in
    c.in_ok-push_paragraph.ensures
    ∙ ap (λ (t : List ℕ). string_bytes c.push_str.new.self ++ paragraph t)
    (c.as_str-2.ensures.value ∙ c.in_ok-others.ensures ∙ ap (λ gs. others_line (map (λ f. f.now) gs)) c.after.ensures ∙ ap others_line rest)
    ∙ ap (λ (t : List ℕ). t ++ more)
    (c.in_ok-push_str.ensures.bytes ∙ ap (λ (t : List ℕ). string_bytes c.push_head.new.text ++ t) (c.as_str.ensures.value ∙ of_rows)
    ∙ ap (λ (t : List ℕ). t ++ written) (c.in_ok-push_head.ensures ∙ ap (λ n. old ++ head_for n) number))
    ∙ regroup old head written more
