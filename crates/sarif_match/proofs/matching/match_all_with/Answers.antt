use Rattle.std.proofs.Common.{◌≡◌, length, rules, sym, ◌∙◌}
use Rattle.sarif_match.proofs.NoBaseline.{nobody}
use Rattle.sarif_match.proofs.matching.match_all_with.Goals as goal

pub returns-then-is_empty : goal.returns-then-is_empty
returns-then-is_empty g c =
    let bs = c.args.baseline.now in
    let short : length bs ≡ 0 = search rules in
    let none = c.in_ok-progress.ensures.none in
    c.of.ensures ∙ none ∙ sym (nobody c.args.current.now bs short)
