use Rattle.std.proofs.Common.{◌≡◌, map, drop}
use Rattle.std.specs.List.{list_any}
use Rattle.sarif_links.specs.Template.{is_relative}
use Rattle.sarif_links.proofs.path.is_any_relative.Given as goal

abbrev pub invariant-loop-segment : goal.invariant-loop-segment
invariant-loop-segment l = list_any is_relative (map (λ segment. segment.now) (drop l.segment-index l.segments))
    ≡ list_any is_relative (map (λ segment. segment.now) l.segments)
