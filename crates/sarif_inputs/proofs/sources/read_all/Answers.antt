use Rattle.std.proofs.Common.{rules, ◌≡◌, [], ◌++◌, map, length, arith, sym, ap, ◌∙◌}
use Rattle.std.proofs.lemmas.List.{length-map}
use Rattle.std.proofs.lemmas.Result.{err_from_is_err_and}
use Rattle.sarif_inputs.specs.Internal.ReadRun.{placed_read}
use Rattle.sarif_model.specs.declared.merge_fault.Source.TheVariants.{Log, Baseline}
use Rattle.sarif_inputs.specs.Inputs.{numbered, placed}
use Rattle.sarif_inputs.proofs.ReadFacts.{placed-append}
use Rattle.sarif_inputs.proofs.ReadParts.{parsed_length}
use Rattle.sarif_inputs.proofs.SourceSteps.{refused_by_logs, left_after_logs}
use Rattle.sarif_inputs.proofs.sources.read_all.Goals as goal

pub add_all-requires-clause-few : goal.add_all-requires-clause-few
add_all-requires-clause-few g c =
    let given = c.requires.indexes in
    let read = c.in_ok-first.ensures.logs given.0 given.1 given.2 in
    let long = parsed_length c.args.checks.now.allow_external given.0 c.in_ok-first.first.items read in
    omega (arith, long, given.2.few_logs)

pub add_all-requires-clause-parsed : goal.add_all-requires-clause-parsed
add_all-requires-clause-parsed g c =
    let given = c.requires.indexes in
    (given.0, c.in_ok-first.ensures.logs given.0 given.1 given.2)

pub add_all-requires-2-clause-few : goal.add_all-requires-2-clause-few
add_all-requires-2-clause-few g c =
    let given = c.requires.indexes in
    let read = c.in_ok-first.ensures.baselines given.0 given.1 given.2 in
    let long = parsed_length c.args.checks.now.allow_external given.1 c.in_ok-first.second.items read in
    omega (arith, long, given.2.few_baselines)

pub add_all-requires-2-clause-parsed : goal.add_all-requires-2-clause-parsed
add_all-requires-2-clause-parsed g c =
    let given = c.requires.indexes in
    (given.1, c.in_ok-first.ensures.baselines given.0 given.1 given.2)

pub returns-in_err-add_all-clause-faults : goal.returns-in_err-add_all-clause-faults
returns-in_err-add_all-clause-faults g c = λ ls bs are.
    let start = c.new-reading.result in
    let here = c.in_ok-first.ensures.logs ls bs are in
    let p = err_from_is_err_and c.from_residual-in_err-add_all.result c.from_residual-in_err-add_all.ensures.1 in
    rw (p.1, p.2)
    (refused_by_logs (numbered c.args.checks.now Log 0 ls) (numbered c.args.checks.now Baseline 0 bs) start (search rules)
    (search rules) c.in_err-add_all.field-0.0 (c.in_err-add_all.ensures.faults ls here))

pub returns-in_err-add_all-2-clause-faults : goal.returns-in_err-add_all-2-clause-faults
returns-in_err-add_all-2-clause-faults g c = λ ls bs are.
    let start = c.new-reading.result in
    let here = c.in_ok-first.ensures.logs ls bs are in
    let there = c.in_ok-first.ensures.baselines ls bs are in
    let p = err_from_is_err_and c.from_residual-in_err-add_all-2.result c.from_residual-in_err-add_all-2.ensures.1 in
    let left = left_after_logs (numbered c.args.checks.now Log 0 ls) (numbered c.args.checks.now Baseline 0 bs) start (search rules)
    (search rules) c.add_all.new.self (search rules) (c.in_ok-add_all.ensures.runs ls here) (c.in_ok-add_all.ensures.faults ls here) in
    rw (p.1, p.2) (rw left (c.in_err-add_all-2.ensures.faults bs there))

pub returns-clause-all : goal.returns-clause-all
returns-clause-all g c = λ ls bs are.
    let here = c.in_ok-first.ensures.logs ls bs are in
    let there = c.in_ok-first.ensures.baselines ls bs are in
    let others = placed (numbered c.args.checks.now Baseline 0 bs) in
    let none : c.new-reading.result.runs.items ≡ [] = search rules in
    c.in_ok-add_all-2.ensures.runs bs there
    ∙ ap (λ ps. ps ++ others) (c.in_ok-add_all.ensures.runs ls here)
    ∙ ap (λ vs. (map placed_read vs ++ placed (numbered c.args.checks.now Log 0 ls)) ++ others) none
    ∙ sym (placed-append (numbered c.args.checks.now Log 0 ls) (numbered c.args.checks.now Baseline 0 bs))

pub returns-clause-inputs : goal.returns-clause-inputs
returns-clause-inputs g c = λ ls bs are.
    let logs = c.add_all.new.self.runs.items in
    let here = c.in_ok-first.ensures.logs ls bs are in
    let none : c.new-reading.result.runs.items ≡ [] = search rules in
    let long = ap length (c.in_ok-add_all.ensures.runs ls here ∙ ap (λ vs. map placed_read vs ++ placed (numbered c.args.checks.now Log 0 ls)) none) in
    let n : c.len-inputs.result ≡ length logs = search rules in
    omega (arith, n, long, length-map logs placed_read)

pub returns-clause-faults : goal.returns-clause-faults
returns-clause-faults g c = λ ls bs are.
    let start = c.new-reading.result in
    let here = c.in_ok-first.ensures.logs ls bs are in
    let there = c.in_ok-first.ensures.baselines ls bs are in
    left_after_logs (numbered c.args.checks.now Log 0 ls) (numbered c.args.checks.now Baseline 0 bs) start (search rules)
    (search rules) c.add_all.new.self (search rules) (c.in_ok-add_all.ensures.runs ls here) (c.in_ok-add_all.ensures.faults ls here)
    ∙ c.in_ok-add_all-2.ensures.faults bs there
