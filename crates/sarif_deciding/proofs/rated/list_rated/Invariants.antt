use Rattle.std.proofs.Common.{◌≡◌, map, take}
use Rattle.sarif_deciding.specs.Internal.Rated.{ratings_in}
use Rattle.sarif_deciding.proofs.rated.list_rated.Given as goal

-- the ratings so far
abbrev pub invariant-loop-number : goal.invariant-loop-number
invariant-loop-number l = map (λ r. r.now) l.list.items ≡ take l.number (ratings_in l.rated)
