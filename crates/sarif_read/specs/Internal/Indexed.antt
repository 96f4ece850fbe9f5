-- The value of a run of an indexed log.
use Rattle.std.specs.Prelude.{ℕ, List, Option, Some, None, codes}
use Rattle.serde_json.specs.Data.{Data, null, boolean, number, string, array, object, put}
use Rattle.serde_json.specs.View.{view}
use Rattle.sarif_read.specs.declared.indexed_run.IndexedRun.{IndexedRun}
use Rattle.sarif_read.specs.Internal.Listed.{listed_member}

-- an object with that member, if there is one
abbrev pub with_member : List ℕ → Option Data → Data → Data
with_member name None d = d
with_member name (Some found) null = null
with_member name (Some found) (boolean b) = boolean b
with_member name (Some found) (number n) = number n
with_member name (Some found) (string s) = string s
with_member name (Some found) (array ds) = array ds
with_member name (Some found) (object ms) = object (put name found ms)

-- the run, with its results, stripped
abbrev pub run_of : IndexedRun → Data
run_of run = with_member (codes "results") (listed_member run.results) (view run.bare)
