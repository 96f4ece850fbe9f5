use Rattle.std.proofs.Common.{rules, ◌≡◌, [], sym, ap, ◌∙◌}
use Rattle.std.proofs.lemmas.Result.{IfOk-weaker}
use Rattle.std.specs.Prelude.{option_map}
use Rattle.sarif_log.specs.LogBy.{runs_by}
use Rattle.sarif_log.specs.Told.{if_asked}
use Rattle.sarif_prepare.specs.Ruled.{matched_in}
use Rattle.sarif_prepare.specs.Told.{told_ruled}
use Rattle.sarif_prepare.proofs.impacts.tell_ruled.Goals as goal

pub returns-in-Some : goal.returns-in-Some
returns-in-Some g c =
    let v = c.args.asked.now.options.now.checks.matching in
    IfOk-weaker c.tell_shown.result _ _ (λ findings is. λ file now before h change cs same.
    is file now before h change cs same
    ∙ sym (ap (λ o. if_asked o (λ r. told_ruled cs (matched_in v file change now before) r (runs_by v file now before)))
    (ap (option_map (λ r. r.now)) c.in-Some.is)))
    c.tell_shown.ensures

pub returns-in-None : goal.returns-in-None
returns-in-None g c = λ file now before h change cs same.
    let v = c.args.asked.now.options.now.checks.matching in
    let empty : c.new.result.items ≡ [] = search rules in
    empty
    ∙ sym (ap (λ o. if_asked o (λ r. told_ruled cs (matched_in v file change now before) r (runs_by v file now before)))
    (ap (option_map (λ r. r.now)) c.in-None.is))
