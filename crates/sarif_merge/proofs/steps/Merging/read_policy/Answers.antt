use Rattle.std.proofs.Common.{◌≡◌, Err, refl, sym, subst}
use Rattle.std.proofs.lemmas.Result.{err_from_is_err_and}
use Rattle.std.specs.Prelude.{IfErr, option_map}
use Rattle.sarif_inputs.specs.PolicyIn.{conditions_in}
use Rattle.sarif_merge.specs.Internal.Steps.{IsRejection}
use Rattle.sarif_merge.proofs.StepFacts.{policy_is_in, rejected_policy}
use Rattle.sarif_merge.proofs.steps.Merging.read_policy.Goals as goal

pub returns-in_err-policy-clause-refused : goal.returns-in_err-policy-clause-refused
returns-in_err-policy-clause-refused c =
    let fault = c.in_err-policy.field-0.0 in
    let p = err_from_is_err_and c.from_residual.result c.from_residual.ensures.1 in
    let is : c.from_residual.result ≡ Err fault = rw (p.1, p.2) refl in
    subst (λ r. IfErr r (IsRejection c.args.self.now)) (sym is)
    (rejected_policy c.args.self.now c.args.file.now (option_map (λ b. b.now) c.slice_of-bytes.result)
    c.is_some-has_diff.result fault c.requires c.slice_of-bytes.ensures c.is_some-has_diff.ensures c.in_err-policy.ensures.faults c.in_err-policy.ensures.quiet)

pub returns-clause-policy : goal.returns-clause-policy
returns-clause-policy c =
    policy_is_in c.args.self.now c.args.file.now (option_map (λ b. b.now) c.slice_of-bytes.result)
    c.is_some-has_diff.result (conditions_in c.in_ok-policy.policy) c.requires c.slice_of-bytes.ensures c.is_some-has_diff.ensures
    c.in_ok-policy.ensures.read c.in_ok-policy.ensures.faults
