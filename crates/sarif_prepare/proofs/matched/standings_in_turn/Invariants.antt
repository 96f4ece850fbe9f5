use Rattle.std.proofs.Common.{◌≡◌, ◌+◌, ◌++◌, drop}
use Rattle.sarif_prepare.specs.Kept.{standings_from}
use Rattle.sarif_prepare.proofs.matched.standings_in_turn.Given as goal

-- the states so far, and those of what is left, are those of all
abbrev pub invariant-loop-record : goal.invariant-loop-record
invariant-loop-record l = record {
  counted : l.number ≡ l.fn.first + l.record-index;
  told : l.standings.items ++ standings_from l.matches.version l.matches.baseline.now l.matches.matching.now l.number (drop l.record-index l.current)
      ≡ standings_from l.matches.version l.matches.baseline.now l.matches.matching.now l.fn.first l.current;
}
