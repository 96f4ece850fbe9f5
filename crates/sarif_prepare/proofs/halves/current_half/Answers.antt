use Rattle.std.proofs.Common.{map, refl, ap, ◌∙◌}
use Rattle.sarif_runs.specs.Judging.{records_in}
use Rattle.sarif_runs.specs.Internal.Opened.{placed_of}
use Rattle.sarif_prepare.specs.Internal.Halves.{drafts_in}
use Rattle.sarif_results.proofs.OutcomeItems.{all_records}
use Rattle.sarif_prepare.proofs.FoundDrafts.{current_drafts}
use Rattle.sarif_prepare.proofs.halves.current_half.Goals as goal

pub returns : goal.returns
returns c = λ file judged.
    let ps = map placed_of c.args.judged.runs.items in
    record {
      opened = refl;
      records = c.in_ok-records.ensures.records ∙ ap (λ os. records_in (map (λ o. o.item) os)) judged.outcomes ∙ all_records file ps;
      drafts = c.in_ok-records.ensures.drafts ∙ ap drafts_in judged.outcomes ∙ current_drafts file ps judged.faultless judged.sources;
    }
