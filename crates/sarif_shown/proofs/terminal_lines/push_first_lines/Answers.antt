use Rattle.std.proofs.Common.{◌≡◌, ◌++◌, ◌∙◌, List, ap, flat_map, map, string_bytes, subst, sym}
use Rattle.std.specs.Result.{OnOk}
use Rattle.std.proofs.lemmas.List.{take-map}
use Rattle.sarif_findings.specs.declared.finding.Finding.{Finding}
use Rattle.sarif_shown.specs.TerminalReport.{most_shown, screen_line}
use Rattle.sarif_shown.proofs.terminal_lines.push_first_lines.Goals as goal

pub returns : goal.returns
returns c =
    let first = ap (map (λ f. f.now)) c.first_shown.ensures ∙ sym (take-map (λ f. f.now) most_shown c.args.hits.now) in
    subst
    (λ (fs : List Finding). OnOk c.push_screen_lines.result
    (string_bytes c.push_screen_lines.new.text ≡ string_bytes c.args.text.now ++ flat_map (screen_line c.args.screen) fs))
    first c.push_screen_lines.ensures
