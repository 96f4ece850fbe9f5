use Rattle.std.proofs.Common.{◌≡◌, ◌++◌, map, take}
use Rattle.serde_json.specs.View.{view}
use Rattle.sarif_accept.specs.Entry.{entry_for}
use Rattle.sarif_accept.proofs.renewing.add_entries.Given as goal

-- the entries, and then those of the results gone through
abbrev pub invariant-loop-record : goal.invariant-loop-record
invariant-loop-record l =
    map view l.entries.items
    ≡ map view l.fn.entries.items ++ map (λ r. entry_for r.now l.renewal.reason l.renewal.until) (take l.record-index l.added)
