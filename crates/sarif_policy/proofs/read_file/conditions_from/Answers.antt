use Rattle.std.proofs.Common.{rules, arith, ◌≡◌, [], ◌∷◌, ◌++◌, length-append, Ok, ◌∙◌}
use Rattle.serde_json.specs.View.{view}
use Rattle.sarif_policy.specs.Reading.{condition_of}
use Rattle.sarif_policy.proofs.FromConditions.{goes_on}
use Rattle.sarif_policy.proofs.read_file.conditions_from.Goals as goal

pub loop-number-preserved : goal.loop-number-preserved
loop-number-preserved c =
    let cs = c.loop-number.conditions in
    let last = c.in_ok-condition.condition in
    let pushed : c.push.new.self ≡ cs ++ last ∷ [] = search rules in
    let read : condition_of c.args.has_diff c.loop-number.number cs (view c.index-values-number.result) ≡ Ok last = search rules in
    record {
      count = rw pushed (omega (arith, length-append cs (last ∷ []), c.loop-number.invariant.count));
      told = rw pushed
          (goes_on c.args.has_diff cs c.args.values.now c.loop-number.number c.index-values-number.result last (omega arith) c.index-values-number.is read
          ∙ c.loop-number.invariant.told);
    }
