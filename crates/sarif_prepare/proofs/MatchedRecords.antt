-- What matching sees of the results of logs, whose records have the entries that admit them.
use Rattle.std.proofs.Common.{◌≡◌, List, map, length, sym, ap, ◌∙◌, subst}
use Rattle.std.specs.List.{flat_map}
use Rattle.sarif_entries.specs.File.{File}
use Rattle.sarif_model.specs.Run.{results_of, results_total}
use Rattle.sarif_log.specs.LogBy.{limited_records}
use Rattle.sarif_log.proofs.Limits.{limited_long, records_unadmitted}
use Rattle.sarif_log.proofs.Sides.{results_long}
use Rattle.sarif_prepare.specs.declared.baselines.Baselines.{Baselines}
use Rattle.sarif_prepare.specs.declared.halves.Half.{Half}
use Rattle.sarif_prepare.specs.Internal.Halves.{IsCurrent}
use Rattle.sarif_prepare.specs.Internal.Limiting.{unadmitted}
use Rattle.sarif_prepare.specs.Internal.Together.{AreTogether}
use Rattle.sarif_prepare.proofs.Limits.{limited_unadmitted}
use Rattle.sarif_runs.specs.Judging.{records_of, run_values}
use Rattle.sarif_runs.specs.Placed.{Placed}

pub matched_records : (file : File) (now : List Placed) (c : Half) → IsCurrent file now c → map unadmitted c.records.items ≡ records_of now
matched_records file now c is = ap (map unadmitted) is.records ∙ limited_unadmitted file (records_of now) (records_unadmitted now)

-- there is a record for each result
pub limited_total : (file : File) (now : List Placed) → length (records_of now) ≡ results_total (run_values now)
    → length (limited_records file now) ≡ results_total (run_values now)
limited_total file now total = limited_long file (records_of now) ∙ total

pub limited_results : (file : File) (now : List Placed) → length (records_of now) ≡ results_total (run_values now)
    → length (limited_records file now) ≡ length (flat_map results_of (run_values now))
limited_results file now total = limited_total file now total ∙ sym (results_long (run_values now))

-- both sides, lent
pub lent_sides : (file : File) (now before : List Placed) (c d : Half) (b e : Baselines) → d ≡ c → e ≡ b → AreTogether file now before c b
    → AreTogether file now before d e
lent_sides file now before c d b e same_c same_b h =
    subst (λ x. AreTogether file now before d x) (sym same_b) (subst (λ x. AreTogether file now before x b) (sym same_c) h)
