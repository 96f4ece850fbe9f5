use Rattle.std.proofs.Common.{rules, ◌≤◌, ◌<◌, ◌^◌, List, ℕ, length, string_bytes, subst, sym}
use Rattle.std.proofs.lemmas.Result.{IfOk-weaker}
use Rattle.sarif_shown.proofs.EndingShort.{conditions_few}
use Rattle.sarif_shown.proofs.ruled.ending_of.Goals as goal

pub returns-clause-few : goal.returns-clause-few
returns-clause-few c =
    let hits : c.args.ruling.now.hits < 2 ^ 32 = search rules in
    let failed : c.failed_number-failed.result < 2 ^ 64 = search rules in
    let all : length c.as_slice-all.result.now < 2 ^ 64 = search rules in
    IfOk-weaker c.conditions_end.result _ (λ s. length (string_bytes s) ≤ 81)
    (λ s said. subst (λ (t : List ℕ). length t ≤ 81) (sym said) (conditions_few _ _ _ hits failed all)) c.conditions_end.ensures
