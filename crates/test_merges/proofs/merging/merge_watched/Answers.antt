use Rattle.std.proofs.Common.{◌≡◌, IfOk, subst}
use Rattle.sarif_merge.specs.Given.{inputs_with}
use Rattle.sarif_merge.specs.MergedLog.{output_text}
use Rattle.sarif_streams.specs.WereRead.{contents_of}
use Rattle.test_merges.proofs.merging.merge_watched.Goals as goal

-- the options have a copy of the checks
pub returns-clause-log : goal.returns-clause-log
returns-clause-log g c =
    subst
    (λ checks. IfOk c.merge_bytes.result (λ merged. merged.log ≡ output_text
    (inputs_with (contents_of c.args.given.now.sources) c.args.given.now.today checks) c.args.given.now.policy))
    c.in_ok-copy_of.ensures c.merge_bytes.ensures.log
