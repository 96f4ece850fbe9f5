use Rattle.std.proofs.Common.{rules, ◌≤◌, ◌<◌, ◌^◌, List, ℕ, length, string_bytes, subst, sym, arith}
use Rattle.std.proofs.lemmas.Result.{IfOk-weaker}
use Rattle.sarif_shown.proofs.EndingShort.{end_few}
use Rattle.sarif_shown.proofs.ruled.ending_alone.Goals as goal

pub returns-clause-few : goal.returns-clause-few
returns-clause-few c =
    let hits : c.args.hits < 2 ^ 32 = search rules in
    let max : c.args.max < 2 ^ 32 = search rules in
    IfOk-weaker c.gate_end.result _ (λ s. length (string_bytes s) ≤ 47)
    (λ s said. subst (λ (t : List ℕ). length t ≤ 47) (sym said) (end_few c.args.hits c.args.max (omega (arith, hits)) max)) c.gate_end.ensures
