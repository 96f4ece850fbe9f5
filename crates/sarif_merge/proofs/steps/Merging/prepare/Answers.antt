use Rattle.std.proofs.Common.{◌≡◌, Err, refl, sym, subst}
use Rattle.std.proofs.lemmas.Result.{err_from_is_err_and}
use Rattle.std.specs.Prelude.{IfErr, option_map}
use Rattle.sarif_merge.specs.Internal.Steps.{IsChangeIn, IsPolicyIn, IsRejection}
use Rattle.sarif_merge.proofs.StepFacts.{file_was_given, is_ready, judged_first, judged_second, rejected_life}
use Rattle.sarif_merge.proofs.steps.Merging.prepare.Goals as goal

pub prepare_by-requires-clause-read : goal.prepare_by-requires-clause-read
prepare_by-requires-clause-read g c κs within =
    file_was_given c.args.self.now (option_map (λ b. b.now) c.slice_of.result) c.args.files.now.file.now c.requires.file c.slice_of.ensures

pub prepare_by-requires-clause-current : goal.prepare_by-requires-clause-current
prepare_by-requires-clause-current g c κs within =
    judged_first c.args.self.now c.args.files.now.file.now c.args.logs c.requires.file c.requires.logs

pub prepare_by-requires-clause-baseline : goal.prepare_by-requires-clause-baseline
prepare_by-requires-clause-baseline g c κs within =
    judged_second c.args.self.now c.args.files.now.file.now c.args.baselines c.requires.file c.requires.baselines

pub returns-in_err-prepared-clause-refused : goal.returns-in_err-prepared-clause-refused
returns-in_err-prepared-clause-refused g c =
    let fault = c.in_err-prepared.field-0.0 in
    let p = err_from_is_err_and c.from_residual.result c.from_residual.ensures.1 in
    let is : c.from_residual.result ≡ Err fault = rw (p.1, p.2) refl in
    let looked = subst (IsChangeIn c.args.self.now) (sym c.change_of.ensures) c.requires.change in
    let asked = subst (IsPolicyIn c.args.self.now) (sym c.policy_of.ensures) c.requires.policy in
    subst (λ r. IfErr r (IsRejection c.args.self.now)) (sym is)
    (rejected_life c.args.self.now (option_map (λ b. b.now) c.slice_of.result) c.args.files.now.file.now
    (option_map (λ p. p.now.conditions) c.policy_of.result) (option_map (λ b. b.now) c.change_of.result)
    c.args.logs c.args.baselines fault
    c.requires.file asked looked c.requires.logs c.requires.baselines c.slice_of.ensures c.in_err-prepared.ensures.unkept)

pub returns-clause-prepared : goal.returns-clause-prepared
returns-clause-prepared g c =
    let looked = subst (IsChangeIn c.args.self.now) (sym c.change_of.ensures) c.requires.change in
    let asked = subst (IsPolicyIn c.args.self.now) (sym c.policy_of.ensures) c.requires.policy in
    is_ready c.args.self.now (option_map (λ b. b.now) c.slice_of.result) c.args.files.now.file.now
    (option_map (λ p. p.now.conditions) c.policy_of.result) (option_map (λ b. b.now) c.change_of.result)
    c.args.logs c.args.baselines c.in_ok-prepared.prepared
    c.requires.file asked looked c.requires.logs c.requires.baselines c.slice_of.ensures c.in_ok-prepared.ensures.prepared c.in_ok-prepared.ensures.expired
    c.in_ok-prepared.ensures.kept
