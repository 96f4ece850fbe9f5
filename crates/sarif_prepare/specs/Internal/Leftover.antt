-- The drafts of baseline results that no current result matches.
use Rattle.std.specs.Prelude.{Bool, true, false, List, [], ◌∷◌}
use Rattle.serde_json.specs.Data.{Data}
use Rattle.sarif_model.specs.Run.{result_at}
use Rattle.sarif_results.specs.declared.draft.Draft.{Draft}
use Rattle.sarif_results.specs.Drafts.{draft_by, members_in, unapplied}
use Rattle.sarif_prepare.specs.declared.leftover.Leftover.{Leftover}
use Rattle.sarif_runs.specs.declared.spots.Spot.{Spot}
use Rattle.sarif_runs.specs.Internal.Opened.{placed_of}
use Rattle.sarif_runs.specs.Placed.{Placed}
use Rattle.sarif_runs.specs.Internal.Spots.{placed_at}

-- the result at a place
abbrev pub found_at : List Placed → Spot → Data
found_at runs spot = result_at (placed_at runs spot.run).run spot.seq

-- a draft with the result's own suppressions
abbrev pub leftover_draft : Leftover → Draft
leftover_draft left =
    draft_by (λ _ own. own) unapplied left.«record».now
    (members_in (result_at (placed_of left.run.now).run left.seq))

-- the elements of a list that are not marked as taken
abbrev pub not_taken : {X : Type 0} → List Bool → List X → List X
not_taken [] xs = []
not_taken (t ∷ taken) [] = []
not_taken (true ∷ taken) (x ∷ xs) = not_taken taken xs
not_taken (false ∷ taken) (x ∷ xs) = x ∷ not_taken taken xs
