use Rattle.std.proofs.Common.{take, map}
use Rattle.sarif_copies.specs.Internal.Table.{HasThese}
use Rattle.sarif_copies.proofs.others.table_of.Given as goal

-- the results so far
abbrev pub invariant-loop-found : goal.invariant-loop-found
invariant-loop-found g l = HasThese (map (λ r. r.now) (take l.found-index l.records)) l.table
