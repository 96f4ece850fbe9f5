-- The hits of a policy that are accepted.
use Rattle.std.specs.Prelude.{not, ◌&&◌, List, filter, map}
use Rattle.sarif_accept.specs.Adding.{stays}
use Rattle.sarif_conditions.specs.Decided.{impact_of}
use Rattle.sarif_conditions.specs.Judged.{Judged}
use Rattle.sarif_deciding.specs.Matched.{Matched}
use Rattle.sarif_deciding.specs.Results.{current_results, results_in}
use Rattle.sarif_entries.specs.File.{File}
use Rattle.sarif_model.specs.declared.record.Record.{Record}
use Rattle.sarif_policy.specs.declared.condition.GateCondition.{GateCondition}
use Rattle.sarif_prepare.specs.Chosen.{is_hit_by}
use Rattle.sarif_suppress.specs.Suppressing.{is_suppressed}

-- the current results that are hits of the conditions
abbrev pub current_hits : List GateCondition → Matched → List Judged
current_hits cs m =
    filter (λ r. is_hit_by (impact_of cs (results_in cs m) r)) (current_results cs m)

-- the records of those that an entry can make suppressed: they aren't suppressed, and none of their suppressions is
-- rejected or under review
abbrev pub acceptable : File → List Judged → List Record
acceptable file rs =
    map (λ (r : Judged). r.found)
    (filter (λ (r : Judged). not (is_suppressed file r.found) && not (stays file r.found)) rs)
