use Rattle.std.proofs.Common.{◌≡◌, take}
use Rattle.std.specs.List.{list_any}
use Rattle.sarif_accept.specs.Internal.HeardSets.{AreSetsOf}
use Rattle.sarif_accept.proofs.heard.Heard.new.Given as goal

-- the sets of the runs so far
abbrev pub invariant-loop-run : goal.invariant-loop-run
invariant-loop-run g l = record {
  sets : AreSetsOf l.tools l.failed (take l.run-index l.run-items);
  any : l.any_failed ≡ list_any (λ run. run.failed) (take l.run-index l.run-items);
}
