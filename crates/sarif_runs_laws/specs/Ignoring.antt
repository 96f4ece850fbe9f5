-- Runs without the fingerprints of some names, and the same runs with these ignored.
use Rattle.std.specs.Prelude.{◌≡◌, ◌||◌, ℕ, Bool, List, [], map, bytes_eq, codes, if◌then◌else◌}
use Rattle.serde_json.specs.Data.{Data, null, boolean, number, string, array, object, Members, no_members, member}
use Rattle.sarif_model.specs.Run.{results_of}
use Rattle.sarif_read.specs.Unmarked.{with_only}
use Rattle.sarif_runs.specs.Ignoring.{is_among}
use Rattle.sarif_runs.specs.Judging.{faults_of_runs, records_of}
use Rattle.sarif_runs.specs.Placed.{Placed}

-- ---- results without fingerprints

-- the members of a map of fingerprints, without those of these names
abbrev pub members_without : List (List ℕ) → Members → Members
members_without names no_members = no_members
members_without names (member name d ms) =
    if is_among names name then members_without names ms
    else member name d (members_without names ms)

-- a map of fingerprints without those of these names; a value that is not an object is unchanged
abbrev pub map_without : List (List ℕ) → Data → Data
map_without names null = null
map_without names (boolean b) = boolean b
map_without names (number n) = number n
map_without names (string s) = string s
map_without names (array ds) = array ds
map_without names (object ms) = object (members_without names ms)

-- whether a member of a result with this name is a map of fingerprints
abbrev pub is_map : List ℕ → Bool
is_map name = bytes_eq name (codes "fingerprints") || bytes_eq name (codes "partialFingerprints")

abbrev pub value_without : List (List ℕ) → List ℕ → Data → Data
value_without names name d = if is_map name then map_without names d else d

-- the members of a result, with both maps without the fingerprints of these names
abbrev pub each_without : List (List ℕ) → Members → Members
each_without names no_members = no_members
each_without names (member name d ms) =
    member name (value_without names name d) (each_without names ms)

-- a result without the fingerprints of these names; a value that is not an object is unchanged
abbrev pub result_without : List (List ℕ) → Data → Data
result_without names null = null
result_without names (boolean b) = boolean b
result_without names (number n) = number n
result_without names (string s) = string s
result_without names (array ds) = array ds
result_without names (object ms) = object (each_without names ms)

-- ---- runs

-- a run with its results without the fingerprints of these names
abbrev pub run_without : List (List ℕ) → Data → Data
run_without names run = with_only (map (result_without names) (results_of run)) run

-- a run, read with these names ignored
abbrev pub ignoring : List (List ℕ) → Placed → Placed
ignoring names p = record {
  source = p.source;
  number = p.number;
  options = record {
    must_succeed = p.options.must_succeed;
    records = record { regions = p.options.records.regions; ignored = names };
  };
  run = p.run;
}

-- a run without the fingerprints that are ignored in it, read with none ignored
abbrev pub without_ignored : Placed → Placed
without_ignored p = record {
  source = p.source;
  number = p.number;
  options = record {
    must_succeed = p.options.must_succeed;
    records = record { regions = p.options.records.regions; ignored = [] };
  };
  run = run_without p.options.records.ignored p.run;
}

-- without the ignored fingerprints the runs have no errors either, and the same records of their results
pub record AreReadWithout (runs : List Placed) : Type 0 where
  pub faultless : faults_of_runs (map without_ignored runs) ≡ []
  pub records : records_of (map without_ignored runs) ≡ records_of runs
