use Rattle.std.proofs.Common.{sym, ap, ◌∙◌}
use Rattle.std.specs.List.{flat_map}
use Rattle.sarif_model.specs.Run.{results_of}
use Rattle.sarif_prepare.specs.Internal.Limiting.{drafts_of, put_drafts, put_admitted}
use Rattle.sarif_prepare.proofs.Limits.{limited_each}
use Rattle.sarif_prepare.proofs.halves.change_half.Goals as goal
use Rattle.sarif_runs.specs.Judging.{records_of, run_values}

pub returns : goal.returns
returns c = λ file runs found changes.
    let rs = records_of runs in
    record {
      opened = found.opened;
      records = c.in_ok-records.ensures ∙ ap (λ qs. put_admitted qs c.args.changes.admitted.items) found.records ∙ changes.records ∙ sym (limited_each file rs);
      drafts =
          c.in_ok-drafts.ensures ∙ ap (λ ds. put_drafts ds c.args.changes.drafts.items) found.drafts ∙ changes.drafts
          ∙ ap (λ qs. drafts_of file qs (flat_map results_of (run_values runs))) (sym (limited_each file rs));
    }
