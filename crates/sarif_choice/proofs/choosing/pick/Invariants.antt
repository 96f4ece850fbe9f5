use Rattle.std.proofs.Common.{◌≡◌, ◌++◌, drop, filter, map}
use Rattle.sarif_choice.specs.Choice.{is_chosen}
use Rattle.sarif_choice.proofs.choosing.pick.Given as goal

-- the marks and the chosen hits so far, with those of the hits that are left, are those of all hits
abbrev pub invariant-loop-hit : goal.invariant-loop-hit
invariant-loop-hit l = record {
  marks : l.marks.items ++ map (is_chosen l.choice) (drop l.hit-index l.hits) ≡ map (is_chosen l.choice) l.hits;
  hits : map (λ hit. hit.now) l.chosen.items ++ filter (is_chosen l.choice) (drop l.hit-index l.hits) ≡ filter (is_chosen l.choice) l.hits;
}
