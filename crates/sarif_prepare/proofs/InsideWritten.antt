-- A result is inside of a change as it is written if it is not outside as it was read.
use Rattle.std.proofs.Common.{◌≡◌, ◌++◌, ℕ, true, false, not, ◌&&◌, List, Option, Some, map, codes, refl, sym, ap, ◌∙◌}
use Rattle.std.specs.Prelude.{bytes_eq, flat_map, option_and_then}
use Rattle.std.specs.List.{list_any}
use Rattle.serde_json.specs.Data.{Data, null, boolean, number, string, array, object, Items, Members}
use Rattle.serde_json.specs.Find.{as_array, as_str, get, get_member}
use Rattle.sarif_change.specs.Outside.{is_outside}
use Rattle.sarif_change.specs.Places.{elements_in, is_elsewhere, location_of, places_of, spot_of}
use Rattle.sarif_change.specs.declared.spots.Spots.{Spots}
use Rattle.sarif_model.specs.declared.kinds.Level.{Level}
use Rattle.sarif_model.specs.declared.kinds.State.{State}
use Rattle.sarif_model.specs.declared.kinds.State.TheVariants.{New, Unchanged, Updated, Absent}
use Rattle.sarif_model.specs.declared.place.Place.{Place}
use Rattle.sarif_model.specs.declared.record.Record.{Record}
use Rattle.sarif_model.specs.Members.{unless_null}
use Rattle.sarif_model.specs.Run.{elements_or_none, is_absent_result, is_text}
use Rattle.sarif_model.specs.State.{state_name}
use Rattle.sarif_results.specs.Annotated.{annotated_members}
use Rattle.sarif_results.specs.Drafts.{listed_in, IsObject, Listing}
use Rattle.sarif_results.proofs.AnnotatedResult.{state_found}
use Rattle.sarif_log.specs.MergedRuns.{written}
use Rattle.sarif_scope.specs.Inside.{artifact_place, artifacts_in, is_inside, is_outside_of}
use Rattle.sarif_scope.specs.declared.gated.GatedChange.{GatedChange}
use Rattle.sarif_prepare.proofs.EachWritten.{IsThere}
use Rattle.sarif_prepare.proofs.RunsAlike.{AreAlike}
use Rattle.sarif_prepare.proofs.ToldResults.{kept}

-- ---- its places

-- the elements of a member
abbrev listed : Option Data → List Data
listed found = elements_or_none (option_and_then as_array (option_and_then unless_null found))

abbrev steps : Option Data → List Data
steps flows = flat_map (elements_in (codes "locations")) (flat_map (elements_in (codes "threadFlows")) (listed flows))

-- the places of a result by the three members that have some
abbrev spots_of : List Place → Option Data → Option Data → Option Data → Spots
spots_of artifacts locations related flows = record {
  locations = map (λ location. spot_of artifacts (Some location)) (listed locations);
  others = map (λ location. spot_of artifacts (Some location)) (listed related) ++ map (λ step. spot_of artifacts (location_of step)) (steps flows);
  elsewhere = list_any is_elsewhere (steps flows);
}

artifacts_same : (a b : Data) → AreAlike a b → artifacts_in a ≡ artifacts_in b
artifacts_same a b same = ap (λ found. map artifact_place (listed found)) same.artifacts

never : true ≡ false → ⊥
never h = cc

-- names that differ
apart : (name other : List ℕ) → bytes_eq name name ≡ true → bytes_eq name other ≡ false → name ≡ other → ⊥
apart name other here there same = never (sym here ∙ ap (bytes_eq name) same ∙ there)

beside : (name : List ℕ) (level : Level) (state : State) (list : Items) (ms : Members) → bytes_eq name name ≡ true
    → bytes_eq name (codes "baselineState") ≡ false → bytes_eq name (codes "level") ≡ false → bytes_eq name (codes "suppressions") ≡ false
    → get_member name (annotated_members level state list ms) ≡ get_member name ms
beside name level state list ms here no_state no_level no_list =
    kept name level state list ms (apart name (codes "baselineState") here no_state) (apart name (codes "level") here no_level)
    (apart name (codes "suppressions") here no_list)

module _ (level : Level) (state : State) (list : Items) (ms : Members) where
  abbrev made : Data
  made = object (annotated_members level state list ms)

  places_same : (artifacts : List Place) → places_of artifacts made ≡ places_of artifacts (object ms)
  places_same artifacts =
      ap (λ o. spots_of artifacts o (get (codes "relatedLocations") made) (get (codes "codeFlows") made))
      (beside (codes "locations") level state list ms refl refl refl refl)
      ∙ ap (λ o. spots_of artifacts (get (codes "locations") (object ms)) o (get (codes "codeFlows") made))
      (beside (codes "relatedLocations") level state list ms refl refl refl refl)
      ∙ ap (λ o. spots_of artifacts (get (codes "locations") (object ms)) (get (codes "relatedLocations") (object ms)) o)
      (beside (codes "codeFlows") level state list ms refl refl refl refl)

  outside_same : (change : GatedChange) (written_in run : Data) → AreAlike written_in run
      → is_outside_of change written_in made ≡ is_outside_of change run (object ms)
  outside_same change written_in run same =
      ap (λ spots. is_outside change.changed change.roots change.scope spots) (places_same (artifacts_in written_in))
      ∙ ap (λ places. is_outside change.changed change.roots change.scope (places_of places (object ms))) (artifacts_same written_in run same)

  absent_by : is_absent_result made ≡ is_text (codes "absent") (Some (state_name state))
  absent_by = ap (λ o. is_text (codes "absent") (option_and_then as_str o)) (state_found level state list ms)

-- ---- whether it is absent

there_name : (state : State) → IsThere state → is_text (codes "absent") (Some (state_name state)) ≡ false
there_name New there = refl
there_name Unchanged there = refl
there_name Updated there = refl
there_name Absent there = absurd (there refl)

object_inside : (change : GatedChange) (written_in run : Data) (level : Level) (state : State) (list : Items) (ms : Members)
    → AreAlike written_in run → IsThere state
    → is_inside change written_in (object (annotated_members level state list ms)) ≡ not (is_outside_of change run (object ms))
object_inside change written_in run level state list ms same there =
    ap (λ b. not b && not (is_outside_of change written_in (object (annotated_members level state list ms))))
    (absent_by level state list ms ∙ there_name state there)
    ∙ ap (λ b. not b) (outside_same level state list ms change written_in run same)

pub written_inside : (change : GatedChange) (written_in run : Data) (listed : Listing) (r : Record) (state : State) (d : Data)
    → AreAlike written_in run → IsObject d → IsThere state
    → is_inside change written_in (written listed r state d) ≡ not (is_outside_of change run d)
written_inside change written_in run listed r state null same is there = absurd is
written_inside change written_in run listed r state (boolean b) same is there = absurd is
written_inside change written_in run listed r state (number n) same is there = absurd is
written_inside change written_in run listed r state (string s) same is there = absurd is
written_inside change written_in run listed r state (array ds) same is there = absurd is
written_inside change written_in run listed r state (object ms) same is there =
    object_inside change written_in run r.level state (listed_in listed r ms) ms same there

-- an absent one is never inside
pub absent_outside : (change : GatedChange) (written_in : Data) (listed : Listing) (r : Record) (d : Data) → IsObject d
    → is_inside change written_in (written listed r Absent d) ≡ false
absent_outside change written_in listed r null is = absurd is
absent_outside change written_in listed r (boolean b) is = absurd is
absent_outside change written_in listed r (number n) is = absurd is
absent_outside change written_in listed r (string s) is = absurd is
absent_outside change written_in listed r (array ds) is = absurd is
absent_outside change written_in listed r (object ms) is =
    ap (λ b. not b && not (is_outside_of change written_in (object (annotated_members r.level Absent (listed_in listed r ms) ms))))
    (absent_by r.level Absent (listed_in listed r ms) ms)
