-- A merge whose gate checks a change, and the merge of the same inputs without the diff.
use Rattle.std.specs.Prelude.{◌≡◌, ◌⊎◌, ℕ, true, false, List, [], flat_map, None}
use Rattle.std.specs.List.{Contains}
use Rattle.serde_json.specs.Data.{Data}
use Rattle.sarif_model.specs.Run.{is_absent_result, results_of}
use Rattle.sarif_options.specs.declared.policy.Policy.{Policy}
use Rattle.sarif_change.specs.Outside.{IsInChange}
use Rattle.sarif_change.specs.Places.{places_of}
use Rattle.sarif_change.specs.declared.spots.Spot.{Spot}
use Rattle.sarif_scope.specs.Counted.{hits_by}
use Rattle.sarif_scope.specs.Inside.{artifacts_in, results_inside}
use Rattle.sarif_scope.specs.declared.gated.GatedChange.{GatedChange}
use Rattle.sarif_inputs.specs.Inputs.{Inputs}
use Rattle.sarif_merge.specs.MergedLog.{change_given, runs_counted}
use Rattle.sarif_laws.specs.Hits.{is_hit_in}

-- the same inputs without the diff
abbrev pub without_diff : Inputs → Inputs
without_diff inputs = record inputs { diff = None }

-- the hits of the gate
abbrev pub hits_given : Inputs → Policy → ℕ
hits_given inputs policy = hits_by (change_given inputs) policy (runs_counted inputs)

-- the results that are counted and are inside of a change
abbrev pub counted_inside : GatedChange → Inputs → List Data
counted_inside change inputs = flat_map (results_inside change) (runs_counted inputs)

-- a result of this run may be in the change: it has no location, or one without a path, or one whose URI may be a
-- changed file, and that file is changed at the location's lines, is changed whole, or the location has no lines
abbrev pub MayBeIn : GatedChange → Data → Data → Type 0
MayBeIn change run found =
    let spots = (places_of (artifacts_in run) found).locations in
    (spots ≡ [])
    ⊎ ((spot : Spot) × Contains spots spot
    × ((spot.uri ≡ None) ⊎ IsInChange change.changed change.roots change.scope spot))

-- a result of these runs that is a hit without a change, is current, and may be in the change
pub record IsHitIn (policy : Policy) (change : GatedChange) (runs : List Data)
    (run found : Data) : Type 0 where
  pub run_is_there : Contains runs run
  pub is_there : Contains (results_of run) found
  pub hit : is_hit_in policy found ≡ true
  pub current : is_absent_result found ≡ false
  pub may_be_in : MayBeIn change run found
