use Rattle.std.proofs.Common.{◌≡◌, ◌++◌, drop, map}
use Rattle.std.specs.Prelude.{flat_map}
use Rattle.sarif_choice.specs.Internal.Tables.{names_by}
use Rattle.sarif_choice.proofs.names.all_names.Given as goal

-- the names so far, with those of the hits that are left, are those of all hits
abbrev pub invariant-loop-hit : goal.invariant-loop-hit
invariant-loop-hit l =
    l.names.items ++ flat_map (names_by l.naming) (map (λ hit. hit.now) (drop l.hit-index l.hits))
    ≡ flat_map (names_by l.naming) (map (λ hit. hit.now) l.hits)
