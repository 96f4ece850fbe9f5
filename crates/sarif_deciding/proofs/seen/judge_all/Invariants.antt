use Rattle.std.proofs.Common.{◌≡◌, ◌++◌, map, drop}
use Rattle.sarif_conditions.specs.Judged.{judged_of}
use Rattle.sarif_deciding.specs.Internal.Looked.{seen_of}
use Rattle.sarif_deciding.specs.Results.{judged_all}
use Rattle.sarif_deciding.proofs.seen.judge_all.Given as goal

-- the results so far, and then those that are left
abbrev pub invariant-loop-number : goal.invariant-loop-number
invariant-loop-number l =
    map judged_of l.judged.items
    ++ judged_all (map (λ r. r.now) (drop l.number l.records)) (drop l.number l.states) (drop l.number l.drafts) (map seen_of (drop l.number l.seen))
    ≡ judged_all (map (λ r. r.now) l.records) l.states l.drafts (map seen_of l.seen)
