use Rattle.std.proofs.Common.{◌≡◌, ◌++◌}
use Rattle.sarif_prepare.specs.Internal.Limiting.{put_admitted}
use Rattle.sarif_prepare.proofs.changes.change_records.Given as goal

abbrev pub invariant-loop-record : goal.invariant-loop-record
invariant-loop-record l = record {
  parts : l.fn.records.items ≡ l.yielded ++ l.record-iterator.rest.items;
  changed : l.changed.items ++ put_admitted l.record-iterator.rest.items l.admitted.rest.items ≡ put_admitted l.fn.records.items l.fn.admitted.items;
}
