-- Members without a number that has a fraction: what is found among them, put there, or left.
use Rattle.std.proofs.Common.{◌≡◌, false, Option, Some, None, codes}
use Rattle.serde_json.specs.Data.{array, Items, Members}
use Rattle.serde_json.specs.Written.{members_have_float}
use Rattle.json_parts.specs.Without.{without}
use Rattle.sarif_log.specs.MergedRuns.{bare, with_results}
use Rattle.json_parts.proofs.Keeping.{put_whole}
use Rattle.sarif_results.proofs.WholeMembers.{without_whole, list_float}

pub bare_whole : (ms : Members) → members_have_float ms ≡ false → members_have_float (bare ms) ≡ false
bare_whole ms of_ms = without_whole (codes "baselineGuid") (without (codes "results") ms) (without_whole (codes "results") ms of_ms)

pub with_results_whole : (list : Option Items) (ms : Members) → list_float list ≡ false → members_have_float ms ≡ false
    → members_have_float (with_results list ms) ≡ false
with_results_whole None ms of_list of_ms = of_ms
with_results_whole (Some ds) ms of_list of_ms = put_whole (codes "results") (array ds) ms of_list of_ms
