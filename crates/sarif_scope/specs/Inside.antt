-- Which results of a merged log are inside of a change. A written result has its locations, and its run its artifacts.
use Rattle.std.specs.Prelude.{ℕ, Bool, not, ◌&&◌, List, Option, None, codes, map, filter, option_and_then}
use Rattle.serde_json.specs.Data.{Data}
use Rattle.serde_json.specs.Find.{as_str}
use Rattle.sarif_model.specs.Members.{member_at}
use Rattle.sarif_model.specs.Run.{is_absent_result, results_of}
use Rattle.sarif_model.specs.declared.place.Place.{Place}
use Rattle.sarif_change.specs.Outside.{is_outside}
use Rattle.sarif_change.specs.Places.{elements_in, member_in, places_of}
use Rattle.sarif_scope.specs.declared.gated.GatedChange.{GatedChange}

-- the string that a value is
abbrev pub text_of : Option Data → Option (List ℕ)
text_of found = option_and_then as_str found

-- the place of an artifact: `location.uri`
abbrev pub artifact_place : Data → Place
artifact_place artifact = record {
  uri = text_of (member_in (codes "uri") (member_at (codes "location") artifact));
  base = None;
}

-- the places of a run's artifacts, in order
abbrev pub artifacts_in : Data → List Place
artifacts_in run = map artifact_place (elements_in (codes "artifacts") run)

-- whether a result of this run is outside by its places
abbrev pub is_outside_of : GatedChange → Data → Data → Bool
is_outside_of change run result =
    is_outside change.changed change.roots change.scope (places_of (artifacts_in run) result)

-- whether a result of this run is inside; an absent result has no place in the new files
abbrev pub is_inside : GatedChange → Data → Data → Bool
is_inside change run result = not (is_absent_result result) && not (is_outside_of change run result)

-- the results of a run that are inside
abbrev pub results_inside : GatedChange → Data → List Data
results_inside change run = filter (is_inside change run) (results_of run)
