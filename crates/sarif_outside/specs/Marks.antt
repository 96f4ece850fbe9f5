-- Which results of runs are outside of a change, as a mark for each of them in order.
use Rattle.std.specs.Prelude.{Bool, ◌&&◌, List, [], ◌∷◌, map}
use Rattle.sarif_model.specs.Run.{result_at}
use Rattle.sarif_change.specs.declared.spots.Scope.{Scope}
use Rattle.sarif_runs.specs.Internal.Spots.{placed_at, spots_from}
use Rattle.sarif_runs.specs.Placed.{Placed}
use Rattle.sarif_runs.specs.declared.spots.Spot.{Spot}
use Rattle.sarif_scope.specs.Inside.{is_outside_of}
use Rattle.sarif_scope.specs.declared.gated.GatedChange.{GatedChange}

-- the change, if results are compared with it in this scope
abbrev pub in_scope : Scope → GatedChange → GatedChange
in_scope scope change = record change { scope = scope }

-- whether the result at a place is outside by its places
abbrev pub is_outside_at : GatedChange → List Placed → Spot → Bool
is_outside_at change runs spot =
    let run = (placed_at runs spot.run).run in is_outside_of change run (result_at run spot.seq)

-- both marks of each result
abbrev pub both : List Bool → List Bool → List Bool
both [] marks = []
both (asked ∷ more) [] = []
both (asked ∷ more) (mark ∷ marks) = (asked && mark) ∷ both more marks

-- whether each result of these runs is requested, and outside by its places
abbrev pub outside_marks : GatedChange → List Placed → List Bool → List Bool
outside_marks change runs asked = both asked (map (is_outside_at change runs) (spots_from 0 runs))
