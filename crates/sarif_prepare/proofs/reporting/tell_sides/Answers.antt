use Rattle.std.proofs.Common.{◌≡◌, length, List, Option, Some, None, sym, ap, ◌∙◌}
use Rattle.std.proofs.lemmas.Result.{IfOk-weaker}
use Rattle.std.specs.Prelude.{option_map}
use Rattle.sarif_conditions.specs.declared.decided.Decided.{Decided}
use Rattle.sarif_deciding.specs.Matched.{Matched}
use Rattle.sarif_deciding.specs.Ruling.{ruling_in}
use Rattle.sarif_findings.specs.declared.finding.Finding.{Finding}
use Rattle.sarif_findings.specs.declared.reporting.Reporting.{Reporting}
use Rattle.sarif_log.specs.LogBy.{runs_by}
use Rattle.sarif_log.specs.Told.{if_asked, told_by}
use Rattle.sarif_policy.specs.declared.condition.GateCondition.{GateCondition}
use Rattle.sarif_prepare.specs.Asked.{reporting_in}
use Rattle.sarif_prepare.specs.Ruled.{decided_by, matched_in}
use Rattle.sarif_prepare.specs.Told.{told_in, told_ruled}
use Rattle.sarif_prepare.proofs.ToldRuled.{impacts_or}
use Rattle.serde_json.specs.Data.{Data}
use Rattle.sarif_prepare.proofs.reporting.tell_sides.Goals as goal

-- without a decision there are no conditions, and with one it is that of the conditions
none_decided : (m : Matched) (asked : Option Reporting) (runs : List Data) (conditions : Option (List GateCondition)) → None ≡ decided_by conditions m
    → (found : List Finding) → found ≡ told_by m.change asked runs → found ≡ told_in conditions m asked runs
none_decided m asked runs None none found is = is
none_decided m asked runs (Some cs) none found is = let e : None ≡ Some (ruling_in cs m) = none in absurd (cc e)

some_decided : (m : Matched) (asked : Option Reporting) (runs : List Data) (conditions : Option (List GateCondition)) (d : Decided)
    → Some d ≡ decided_by conditions m
    → (found : List Finding) → ((cs : List GateCondition) → d.impacts ≡ (ruling_in cs m).impacts → found ≡ if_asked asked (λ r. told_ruled cs m r runs))
    → found ≡ told_in conditions m asked runs
some_decided m asked runs None d some found is = let e : Some d ≡ None = some in absurd (cc e)
some_decided m asked runs (Some cs) d some found is = is cs (ap (impacts_or d.impacts) some)

pub tell_ruled-requires-clause-each : goal.tell_ruled-requires-clause-each
tell_ruled-requires-clause-each g c κs within =
    ap length c.as_slice.ensures ∙ c.requires.each c.in-Some.decided.now (ap (option_map (λ d. d.now)) c.in-Some.is)

pub returns-in-Some : goal.returns-in-Some
returns-in-Some g c =
    let v = c.args.asked.now.options.now.checks.matching in
    IfOk-weaker c.tell_ruled.result _ _ (λ findings is. λ file now before h change k conditions same.
    some_decided (matched_in v file change now before) (reporting_in c.args.asked.now) (runs_by v file now before) conditions
    c.in-Some.decided.now (sym (ap (option_map (λ d. d.now)) c.in-Some.is) ∙ same) findings.items (λ cs impacts. is file now before h change cs (c.as_slice.ensures ∙ impacts)))
    c.tell_ruled.ensures

pub returns-in-None : goal.returns-in-None
returns-in-None g c =
    let v = c.args.asked.now.options.now.checks.matching in
    IfOk-weaker c.tell_results.result _ _ (λ findings is. λ file now before h change k conditions same.
    none_decided (matched_in v file change now before) (reporting_in c.args.asked.now) (runs_by v file now before) conditions
    (sym (ap (option_map (λ d. d.now)) c.in-None.is) ∙ same) findings.items (is file now before h change k))
    c.tell_results.ensures
