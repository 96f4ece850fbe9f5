use Rattle.std.proofs.Common.{◌≡◌, ◌∙◌, ap, length, map, string_bytes, sym}
use Rattle.std.proofs.lemmas.List.{length-map}
use Rattle.std.proofs.lemmas.Result.{IfOk-weaker}
use Rattle.sarif_reports.specs.MarkdownReport.{more_line, others_line}
use Rattle.sarif_reports.proofs.markdown_table.others_line.Goals as goal

pub returns : goal.returns
returns c =
    let others = map (λ f. f.now) c.args.others.now in
    IfOk-weaker c.more_line.result _ (λ s. string_bytes s ≡ others_line others)
    (λ s said. said ∙ ap (λ n. more_line n c.hits_among.result) (sym (length-map c.args.others.now (λ f. f.now)))
    ∙ ap (more_line (length others)) c.hits_among.ensures)
    c.more_line.ensures
