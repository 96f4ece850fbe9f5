-- Where in its file a result is: the region of its first location, and the text of its snippet (SARIF 2.1.0,
-- physicalLocation object, "region property", "contextRegion property"; region object, "snippet property"). A member
-- of the wrong type is treated as missing: no result is rejected for these.
use Rattle.std.specs.Prelude.{◌^◌, ◌==◌, ℕ, Bool, true, false, ◌&&◌, nat_lt, List, Option, Some, None, codes, if◌then◌else◌, option_map, option_and_then, unwrap_or}
use Rattle.std.specs.List.{list_all}
use Rattle.std.specs.Option.{option_or}
use Rattle.serde_json.specs.Data.{Data}
use Rattle.serde_json.specs.Find.{get, as_str, as_array, as_number, as_u64}
use Rattle.sarif_model.specs.declared.region.Region.{Region}
use Rattle.sarif_model.specs.Members.{first_of}
use Rattle.sarif_model.specs.Run.{elements_or_none}
use Rattle.sarif_model.specs.WhiteSpace.{is_white_space}
use Rattle.sarif_members.specs.declared.own_members.region.RegionAndSnippet.{RegionAndSnippet}

-- the member of that name, in a value that may be missing
abbrev pub member_in : List ℕ → Option Data → Option Data
member_in name found = option_and_then (get name) found

-- `locations[0].physicalLocation`
abbrev pub physical_location : Data → Option Data
physical_location result =
    member_in (codes "physicalLocation")
    (first_of (elements_or_none (option_and_then as_array (get (codes "locations") result))))

-- ---- the region

-- a line or a column: an integer from 1 to 4,294,967,295
abbrev pub if_position : ℕ → Option ℕ
if_position n = if nat_lt 0 n && nat_lt n (2 ^ 32) then Some n else None

-- the line or the column of that name
abbrev pub position_in : List ℕ → Option Data → Option ℕ
position_in name region =
    option_and_then if_position
    (option_and_then as_u64 (option_and_then as_number (member_in name region)))

-- the lines and columns of a region; without a start line there are none
abbrev pub region_of : Option Data → Option Region
region_of region =
    option_map
    (λ line. record {
      start_line = line;
      start_column = position_in (codes "startColumn") region;
      end_line = position_in (codes "endLine") region;
      end_column = position_in (codes "endColumn") region;
    })
    (position_in (codes "startLine") region)

-- ---- the snippet

-- the text, unless it is white space alone
abbrev pub unless_blank : List ℕ → Option (List ℕ)
unless_blank text = if list_all is_white_space text then None else Some text

-- the text of the snippet of a region
abbrev pub snippet_in : Option Data → Option (List ℕ)
snippet_in region =
    option_and_then unless_blank
    (option_and_then as_str (member_in (codes "text") (member_in (codes "snippet") region)))

-- the end line, otherwise the start line
abbrev pub last_line : Region → ℕ
last_line region = unwrap_or region.end_line region.start_line

-- both are there, and have the same first line and the same last line
abbrev pub have_same_lines : Option Region → Option Region → Bool
have_same_lines None context = false
have_same_lines (Some region) None = false
have_same_lines (Some region) (Some context) =
    (region.start_line == context.start_line) && (last_line region == last_line context)

-- the text of the snippet of the context region, if it has exactly the lines of the region
abbrev pub context_snippet : Option Data → Option Data → Option (List ℕ)
context_snippet region context =
    if have_same_lines (region_of region) (region_of context) then snippet_in context else None

-- the text of the region's own snippet, otherwise that of the context region
abbrev pub snippet_of : Option Data → Option Data → Option (List ℕ)
snippet_of region context = option_or (snippet_in region) (context_snippet region context)

-- ---- both

abbrev pub region_within : Option Data → RegionAndSnippet
region_within physical =
    record {
      region = region_of (member_in (codes "region") physical);
      snippet =
          snippet_of
          (member_in (codes "region") physical)
          (member_in (codes "contextRegion") physical);
    }

-- the region of the first location and its snippet, if regions are read
abbrev pub own_region : Bool → Data → RegionAndSnippet
own_region false result = record { region = None; snippet = None }
own_region true result = region_within (physical_location result)
