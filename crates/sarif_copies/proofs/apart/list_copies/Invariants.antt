use Rattle.std.proofs.Common.{◌≡◌, ◌++◌, drop, length}
use Rattle.sarif_copies.specs.Copies.{copies_from}
use Rattle.sarif_copies.proofs.apart.list_copies.Given as goal

abbrev pub invariant-loop-first : goal.invariant-loop-first
invariant-loop-first l = record {
  number : l.number ≡ l.first-index;
  count : length l.copies.items ≡ l.first-index;
  told : l.copies.items ++ copies_from l.number (drop l.first-index l.firsts) ≡ copies_from 0 l.firsts;
}
