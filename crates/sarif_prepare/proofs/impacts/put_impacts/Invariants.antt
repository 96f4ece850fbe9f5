use Rattle.std.proofs.Common.{◌≡◌, ◌++◌}
use Rattle.sarif_prepare.specs.Internal.Impacts.{put_impacts}
use Rattle.sarif_prepare.proofs.impacts.put_impacts.Given as goal

abbrev pub invariant-loop-finding : goal.invariant-loop-finding
invariant-loop-finding l = record {
  parts : l.fn.findings.items ≡ l.yielded ++ l.finding-iterator.rest.items;
  changed : l.put.items ++ put_impacts l.finding-iterator.rest.items l.impacts.rest.items ≡ put_impacts l.fn.findings.items l.fn.impacts.items;
}
