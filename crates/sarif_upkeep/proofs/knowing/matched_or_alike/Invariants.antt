use Rattle.std.proofs.Common.{◌≡◌, ◌++◌, drop, length}
use Rattle.sarif_known.specs.Chosen.{all_chosen}
use Rattle.sarif_upkeep.specs.Known.{matched_or_alike, records_among}
use Rattle.sarif_upkeep.proofs.knowing.matched_or_alike.Given as goal

abbrev pub invariant-loop-number : goal.invariant-loop-number
invariant-loop-number l = record {
  gone : l.gone.items
      ++ matched_or_alike (records_among (all_chosen l.now)) (drop l.number l.before.records.now) (drop l.number l.before.taken.now)
      ≡ matched_or_alike (records_among (all_chosen l.now)) l.before.records.now l.before.taken.now;
  count : length l.gone.items ≡ l.number;
}
