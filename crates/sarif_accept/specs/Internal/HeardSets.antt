-- The tools of runs as sets.
use Rattle.std.specs.Prelude.{◌≡◌, ℕ, List, bytes_eq}
use Rattle.std.specs.List.{list_any}
use Rattle.indexmap.specs.IndexSet.{IndexSet, contains}
use Rattle.sarif_accept.specs.declared.heard.ToolRun.{ToolRun}
use Rattle.sarif_accept.specs.Heard.{is_of, is_failed_of}

-- the first set has the tools of the runs, the second those of the runs that failed
pub record AreSetsOf {S : Type 0} (tools failed : IndexSet (List ℕ) S) (runs : List ToolRun)
    : Type 0 where
  pub all : (tool : List ℕ) → contains bytes_eq tools tool ≡ list_any (is_of tool) runs
  pub of_failed : (tool : List ℕ)
      → contains bytes_eq failed tool ≡ list_any (is_failed_of tool) runs
