-- The places of a result: its locations, its related locations, and the steps of its code flows (SARIF 2.1.0, "location
-- object", "threadFlowLocation object"). Null, and a member of the wrong type, are treated as missing, unless a comment
-- says otherwise.
use Rattle.std.specs.Prelude.{◌^◌, ℕ, Bool, ◌&&◌, nat_lt, nat_le, List, map, ◌++◌, Option, Some, None, is_none, is_some, slice_get, codes, if◌then◌else◌, option_and_then}
use Rattle.std.specs.List.{flat_map, list_any}
use Rattle.serde_json.specs.Data.{Data}
use Rattle.serde_json.specs.Find.{as_str, as_array, as_number, as_u64}
use Rattle.sarif_model.specs.Members.{member_at, itself_if_object}
use Rattle.sarif_model.specs.Run.{elements_or_none}
use Rattle.sarif_model.specs.declared.place.Place.{Place}
use Rattle.sarif_model.specs.declared.region.Region.{Region}
use Rattle.sarif_change.specs.declared.spots.Spot.{Spot}
use Rattle.sarif_change.specs.declared.spots.Spots.{Spots}

-- the member of that name, in a value that may be missing
abbrev pub member_in : List ℕ → Option Data → Option Data
member_in name found = option_and_then (member_at name) found

abbrev pub whole_number : Data → Option ℕ
whole_number d = option_and_then as_u64 (as_number d)

-- ---- lines

-- a line: an integer from 1 to 4,294,967,295
abbrev pub if_line : ℕ → Option ℕ
if_line n = if nat_lt 0 n && nat_lt n (2 ^ 32) then Some n else None

abbrev pub line_of : Data → Option ℕ
line_of d = option_and_then if_line (whole_number d)

abbrev pub lines_from : ℕ → Option ℕ → Region
lines_from first last = record {
  start_line = first;
  start_column = None;
  end_line = last;
  end_column = None;
}

-- the lines up to this last one, if that is a line from the first on
abbrev pub lines_to : ℕ → Data → Option Region
lines_to first end =
    option_and_then
    (λ last. if nat_le first last then Some (lines_from first (Some last)) else None) (line_of end)

-- the lines from the first on: that line alone if there is no `endLine`
abbrev pub lines_up : ℕ → Option Data → Option Region
lines_up first None = Some (lines_from first None)
lines_up first (Some end) = lines_to first end

-- the lines of a region; one whose `endLine` is not a line from its start line on has none
abbrev pub region_of : Option Data → Option Region
region_of region =
    option_and_then (λ first. lines_up first (member_in (codes "endLine") region))
    (option_and_then line_of (member_in (codes "startLine") region))

-- ---- a location

-- the URI of the artifact with that number
abbrev pub uri_at : List Place → ℕ → Option (List ℕ)
uri_at artifacts index = option_and_then (λ artifact. artifact.uri) (slice_get artifacts index)

-- without a `uri` it is that of the artifact that `index` points to; a `uri` of the wrong type is none, and then
-- `index` is not read
abbrev pub uri_by : List Place → Option Data → Option Data → Option (List ℕ)
uri_by artifacts (Some uri) index = as_str uri
uri_by artifacts None index =
    option_and_then (uri_at artifacts) (option_and_then whole_number index)

abbrev pub uri_of : List Place → Option Data → Option (List ℕ)
uri_of artifacts artifact =
    uri_by artifacts (member_in (codes "uri") artifact) (member_in (codes "index") artifact)

-- the place of a location
abbrev pub spot_of : List Place → Option Data → Spot
spot_of artifacts location =
    let physical = member_in (codes "physicalLocation") location in
    record {
      uri = uri_of artifacts (member_in (codes "artifactLocation") physical);
      region = region_of (member_in (codes "region") physical);
    }

-- ---- all places

-- the elements of the array of that name
abbrev pub elements_in : List ℕ → Data → List Data
elements_in name d = elements_or_none (option_and_then as_array (member_at name d))

-- the steps of the code flows of a result
abbrev pub steps_of : Data → List Data
steps_of result =
    flat_map (elements_in (codes "locations"))
    (flat_map (elements_in (codes "threadFlows")) (elements_in (codes "codeFlows") result))

-- the location of a step
abbrev pub location_of : Data → Option Data
location_of step = option_and_then itself_if_object (member_at (codes "location") step)

-- a step without a location, and with an index from 0 on: it is kept elsewhere in the run
abbrev pub is_elsewhere : Data → Bool
is_elsewhere step =
    is_none (location_of step)
    && is_some (option_and_then whole_number (member_at (codes "index") step))

-- the places of a result of a run with these artifacts
abbrev pub places_of : List Place → Data → Spots
places_of artifacts result =
    record {
      locations =
          map (λ location. spot_of artifacts (Some location)) (elements_in (codes "locations") result);
      others =
          map (λ location. spot_of artifacts (Some location))
          (elements_in (codes "relatedLocations") result)
          ++ map (λ step. spot_of artifacts (location_of step)) (steps_of result);
      elsewhere = list_any is_elsewhere (steps_of result);
    }
