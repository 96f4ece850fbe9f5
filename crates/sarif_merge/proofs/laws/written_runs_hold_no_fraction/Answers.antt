use Rattle.sarif_log.specs.LogBy.{listing_of}
use Rattle.sarif_results.proofs.WholeListing.{suppressions_whole}
use Rattle.sarif_merge.proofs.WholeRuns.{merged_runs_whole, absent_runs_whole}
use Rattle.sarif_merge.proofs.laws.written_runs_hold_no_fraction.Goals as goal

pub returns : goal.returns
returns c = record {
  current =
      λ file. merged_runs_whole (listing_of file)
      (suppressions_whole c.written_passes_where_its_parts_do.ensures c.object_holds_no_fraction.ensures file);
  baseline = absent_runs_whole;
}
