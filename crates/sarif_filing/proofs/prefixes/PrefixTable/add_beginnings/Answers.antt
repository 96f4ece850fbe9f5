use Rattle.std.proofs.Common.{◌≡◌, ◌+◌, take}
use Rattle.sarif_filing.specs.Internal.Prefixes.{hash_of}
use Rattle.sarif_filing.proofs.Beginnings.{hash_step, found_step}
use Rattle.sarif_filing.proofs.prefixes.PrefixTable.add_beginnings.Goals as goal

pub loop-at-preserved : goal.loop-at-preserved
loop-at-preserved g c =
    let table = c.args.self.now in
    let text = c.args.text.now in
    let hash : c.next_hash-hash.result ≡ hash_of table.base (take (c.loop-at.at + 1) text) =
    hash_step table.base c.loop-at.hash c.next_hash-hash.result text c.loop-at.at _ c.loop-at-test.true c.loop-at.invariant.hash
    c.next_hash-hash.ensures in
    record {
      hash = hash;
      found = found_step table c.args.found.now.items c.loop-at.found.items _ text c.loop-at.at c.next_hash-hash.result 0
          c.loop-at-test.true hash c.loop-at.invariant.found c.in_ok-add_with_hash-2.ensures;
    }
