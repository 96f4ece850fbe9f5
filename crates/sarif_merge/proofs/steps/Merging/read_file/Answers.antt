use Rattle.std.proofs.Common.{◌≡◌, Err, refl, sym, subst}
use Rattle.std.proofs.lemmas.Result.{err_from_is_err_and}
use Rattle.std.specs.Prelude.{IfErr, option_map}
use Rattle.sarif_merge.specs.Internal.Steps.{IsRejection}
use Rattle.sarif_merge.proofs.StepFacts.{file_read, rejected_file}
use Rattle.sarif_merge.proofs.steps.Merging.read_file.Goals as goal

pub returns-in_err-file-clause-refused : goal.returns-in_err-file-clause-refused
returns-in_err-file-clause-refused c =
    let fault = c.in_err-file.field-0.0 in
    let p = err_from_is_err_and c.from_residual.result c.from_residual.ensures.1 in
    let is : c.from_residual.result ≡ Err fault = rw (p.1, p.2) refl in
    subst (λ r. IfErr r (IsRejection c.args.self.now)) (sym is)
    (rejected_file c.args.self.now (option_map (λ b. b.now) c.slice_of-bytes.result)
    fault c.requires c.slice_of-bytes.ensures c.in_err-file.ensures.faults c.in_err-file.ensures.quiet)

pub returns-clause-file : goal.returns-clause-file
returns-clause-file c =
    file_read c.args.self.now (option_map (λ b. b.now) c.slice_of-bytes.result) c.in_ok-file.file c.requires c.slice_of-bytes.ensures c.in_ok-file.ensures.read
