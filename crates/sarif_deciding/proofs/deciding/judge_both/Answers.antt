use Rattle.std.proofs.Common.{◌++◌, map, ap, ◌∙◌}
use Rattle.std.proofs.lemmas.List.{map-append}
use Rattle.sarif_conditions.specs.Judged.{judged_of}
use Rattle.sarif_deciding.specs.Merge.{matched_of}
use Rattle.sarif_deciding.specs.Results.{current_results}
use Rattle.sarif_deciding.proofs.deciding.judge_both.Goals as goal

pub returns-clause-judged : goal.returns-clause-judged
returns-clause-judged c = λ cs now gone.
    ap (map judged_of) c.in_ok-append.ensures.items
    ∙ map-append judged_of c.in_ok-results.results.items c.in_ok-others.others.items
    ∙ ap (λ rs. rs ++ map judged_of c.in_ok-others.others.items) (c.in_ok-results.ensures.judged cs now)
    ∙ ap (λ rs. current_results cs (matched_of c.args.merge.now) ++ rs) (c.in_ok-others.ensures.judged cs gone)
