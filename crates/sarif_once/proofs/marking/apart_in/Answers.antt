use Rattle.std.proofs.Common.{◌≡◌, IfOk, map, length, ap, ◌∙◌, subst, arith}
use Rattle.sarif_copies.specs.Copies.{copies_of, numbers_of}
use Rattle.sarif_results.proofs.OutcomeItems.{all_records}
use Rattle.sarif_results.specs.Internal.Judged.{placed_in}
use Rattle.sarif_runs.specs.Judging.{records_in}
use Rattle.sarif_once.proofs.Items.{outcomes_total}
use Rattle.sarif_once.proofs.marking.apart_in.Goals as goal

pub set_apart-requires : goal.set_apart-requires
set_apart-requires c =
    let file = c.requires.0 in
    let judged = c.requires.2 in
    let placed = placed_in c.args.judged.now in
    let few = c.in_ok-records.ensures.few in
    let list = ap length c.deref-2.ensures.value in
    let all = ap length (c.deref.ensures.value ∙ judged.outcomes) ∙ outcomes_total file placed in
    let most = judged.few_results in
    omega (arith, few, list, all, most)

pub returns-clause-copies : goal.returns-clause-copies
returns-clause-copies c =
    subst (λ rs. IfOk c.set_apart.result (λ apart. apart.copies.items ≡ copies_of rs))
    (ap (map (λ r. r.now)) c.deref-2.ensures.value ∙ c.in_ok-records.ensures.records
    ∙ ap (λ os. records_in (map (λ o. o.item) os)) (c.deref.ensures.value ∙ c.requires.2.outcomes) ∙ all_records c.requires.0 (placed_in c.args.judged.now))
    c.set_apart.ensures.copies

pub returns-clause-numbers : goal.returns-clause-numbers
returns-clause-numbers c =
    subst (λ rs. IfOk c.set_apart.result (λ apart. apart.numbers.items ≡ numbers_of rs))
    (ap (map (λ r. r.now)) c.deref-2.ensures.value ∙ c.in_ok-records.ensures.records
    ∙ ap (λ os. records_in (map (λ o. o.item) os)) (c.deref.ensures.value ∙ c.requires.2.outcomes) ∙ all_records c.requires.0 (placed_in c.args.judged.now))
    c.set_apart.ensures.numbers
