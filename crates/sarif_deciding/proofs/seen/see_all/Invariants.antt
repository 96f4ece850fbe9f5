use Rattle.std.proofs.Common.{◌≡◌, ◌++◌, map, drop}
use Rattle.sarif_deciding.specs.Internal.Looked.{seen_of}
use Rattle.sarif_deciding.specs.Results.{seen_all}
use Rattle.sarif_deciding.proofs.seen.see_all.Given as goal

-- what is seen of the results so far, and then of those that are left
abbrev pub invariant-loop-number : goal.invariant-loop-number
invariant-loop-number l =
    map seen_of l.seen.items
    ++ seen_all (map (λ r. r.now) (drop l.number l.ratings)) (drop l.number l.in_lines) (drop l.number l.in_files) (drop l.number l.gone)
    ≡ seen_all (map (λ r. r.now) l.ratings) l.in_lines l.in_files l.gone
