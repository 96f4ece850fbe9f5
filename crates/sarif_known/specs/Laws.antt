-- The facts about records that can become known, and about a known log that is read again.
use Rattle.std.specs.Prelude.{◌≡◌, ◌≤◌, ◌<◌, ◌^◌, ℕ, false, List, [], map, length, None, IfSome}
use Rattle.std.specs.List.{AllByRecursion, flat_map, list_all}
use Rattle.json_parts.specs.Internal.Ordered.{AreMembersOrdered}
use Rattle.sarif_model.specs.declared.kinds.Level.TheVariants.{NoLevel}
use Rattle.sarif_model.specs.declared.record.Record.{Record}
use Rattle.sarif_model.specs.declared.region.Region.{Region}
use Rattle.sarif_model.specs.WhiteSpace.{is_white_space}
use Rattle.sarif_model.specs.Limits.{most_results, most_runs}
use Rattle.sarif_runs.specs.Judging.{faults_of_runs, records_of}
use Rattle.sarif_runs.specs.Level.{is_fail}
use Rattle.sarif_runs.specs.Placed.{Placed}
use Rattle.sarif_runs.specs.Ignoring.{without_names}
use Rattle.sarif_runs.specs.Record.{if_placed}
use Rattle.sarif_runs.specs.declared.run_options.RecordOptions.{RecordOptions}
use Rattle.sarif_known.specs.Chosen.{Chosen, results_among}
use Rattle.sarif_model.specs.Written.{text_members}

-- the number of a line or a column
pub record IsPosition (n : ℕ) : Type 0 where
  pub first : 0 < n
  pub last : n < 2 ^ 32

pub record IsRegion (region : Region) : Type 0 where
  pub start_line : IsPosition region.start_line
  pub start_column : IfSome region.start_column IsPosition
  pub end_line : IfSome region.end_line IsPosition
  pub end_column : IfSome region.end_column IsPosition

-- the facts about each record that was read with these options: its GUID has 128 bits; it has a level only if its kind
-- is fail; the names of its fingerprints strictly rise, and none is ignored; its region and its snippet are as they are
-- read, and it has them only if regions are read, and with a URI or a base; no entry admits it
pub record IsReadable (options : RecordOptions) (r : Record) : Type 0 where
  pub guid : IfSome r.guid (λ guid. guid < 2 ^ 128)
  pub level : is_fail r.kind ≡ false → r.level ≡ NoLevel
  pub full : AreMembersOrdered (text_members r.full)
  pub partial : AreMembersOrdered (text_members r.partial)
  pub full_kept : without_names options.ignored r.full ≡ r.full
  pub partial_kept : without_names options.ignored r.partial ≡ r.partial
  pub region : IfSome r.region IsRegion
  pub snippet : IfSome r.snippet (λ text. list_all is_white_space text ≡ false)
  pub region_placed : if_placed r.place r.region ≡ r.region
  pub snippet_placed : if_placed r.place r.snippet ≡ r.snippet
  pub no_region : options.regions ≡ false → r.region ≡ None
  pub no_snippet : options.regions ≡ false → r.snippet ≡ None
  pub unadmitted : r.admitted ≡ []

-- the results of a run of this tool can be read again with these options
pub record IsOfTool (options : RecordOptions) (tool : List ℕ) (r : Record) : Type 0 where
  pub tool_is : r.tool ≡ tool
  pub readable : IsReadable options r

-- few enough results for a log, each of its run's tool
pub record CanBeRead (options : RecordOptions) (runs : List Chosen) : Type 0 where
  pub each : AllByRecursion (λ run. AllByRecursion (IsOfTool options run.tool) run.records) runs
  pub few_runs : length runs ≤ most_runs
  pub few_results : results_among runs ≤ most_results

-- the runs of a known log in any merge: none has an error, and the records of their results are exactly
-- these, in this order
pub record AreKnownAgain (runs : List Chosen) (placed : List Placed) : Type 0 where
  pub faultless : faults_of_runs placed ≡ []
  pub records : records_of placed ≡ flat_map (λ run. run.records) runs

-- the record without the statuses of its own suppressions
abbrev pub without_own : Record → Record
without_own r = record {
  tool = r.tool;
  rule_id = r.rule_id;
  kind = r.kind;
  level = r.level;
  message = r.message;
  place = r.place;
  guid = r.guid;
  full = r.full;
  partial = r.partial;
  held = [];
  region = r.region;
  snippet = r.snippet;
  admitted = r.admitted;
}

-- the records are equal except for those statuses
abbrev pub AreAlike : List Record → List Record → Type 0
AreAlike bs others = map without_own bs ≡ map without_own others
