use Rattle.std.proofs.Common.{drop, length, map, ◌-◌}
use Rattle.std.specs.Str.{IsCharBoundary}
use Rattle.serde_json.specs.View.{view}
use Rattle.sarif_findings.specs.Internal.Unlinked.{PassesEmpties}
use Rattle.sarif_findings.proofs.empties.empties_end.Given as goal

abbrev pub decreases-loop-end : goal.decreases-loop-end
decreases-loop-end l = length l.fn.text - l.end

abbrev pub invariant-loop-end : goal.invariant-loop-end
invariant-loop-end l = record {
  cut : IsCharBoundary l.fn.text l.end;
  same : PassesEmpties (map view l.fn.args) (drop l.end l.fn.text) l.fn.text;
}
