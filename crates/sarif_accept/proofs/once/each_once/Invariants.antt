use Rattle.std.proofs.Common.{◌≡◌, ◌≤◌, ◌++◌, [], map, drop, length}
use Rattle.sarif_model.specs.Limits.{most_entries}
use Rattle.sarif_accept.specs.Adding.{once_each}
use Rattle.sarif_accept.specs.Internal.Asked.{HasAsked}
use Rattle.sarif_accept.proofs.once.each_once.Given as goal

-- the results so far, each once, and then those of the rest; the set has the conditions of their entries
abbrev pub invariant-loop-record : goal.invariant-loop-record
invariant-loop-record g l = record {
  asked : HasAsked l.asked (map (λ r. r.now) l.added.items);
  few : length l.added.items ≤ most_entries;
  told : map (λ r. r.now) l.added.items ++ once_each (map (λ r. r.now) l.added.items) (map (λ r. r.now) (drop l.record-index l.accepted))
      ≡ once_each [] (map (λ r. r.now) l.accepted);
}
