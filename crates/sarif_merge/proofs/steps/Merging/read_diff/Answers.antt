use Rattle.std.proofs.Common.{◌≡◌, Err, refl, sym, subst}
use Rattle.std.proofs.lemmas.Result.{err_from_is_err_and}
use Rattle.std.specs.Prelude.{IfErr, option_map}
use Rattle.sarif_inputs.specs.PolicyIn.{conditions_in}
use Rattle.sarif_merge.specs.Internal.Steps.{IsRejection}
use Rattle.sarif_merge.proofs.StepFacts.{change_is_in, rejected_diff}
use Rattle.sarif_merge.proofs.steps.Merging.read_diff.Goals as goal

pub returns-in_err-change-clause-refused : goal.returns-in_err-change-clause-refused
returns-in_err-change-clause-refused c =
    let fault = c.in_err-change.field-0.0 in
    let p = err_from_is_err_and c.from_residual.result c.from_residual.ensures.1 in
    let is : c.from_residual.result ≡ Err fault = rw (p.1, p.2) refl in
    subst (λ r. IfErr r (IsRejection c.args.self.now)) (sym is)
    (rejected_diff c.args.self.now (conditions_in c.args.policy.now) (option_map (λ b. b.now) c.slice_of-bytes.result)
    fault c.requires c.slice_of-bytes.ensures c.in_err-change.ensures.faults c.in_err-change.ensures.quiet)

pub returns-clause-change : goal.returns-clause-change
returns-clause-change c =
    change_is_in c.args.self.now (conditions_in c.args.policy.now) (option_map (λ b. b.now) c.slice_of-bytes.result) c.in_ok-change.change c.requires c.slice_of-bytes.ensures
    c.in_ok-change.ensures.read c.in_ok-change.ensures.faults
