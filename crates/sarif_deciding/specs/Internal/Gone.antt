-- How it is found which absent results went away.
use Rattle.std.specs.Prelude.{◌≡◌, Bool, not, ◌&&◌, List, Some, None, map}
use Rattle.std.specs.List.{list_any}
use Rattle.sarif_accept.specs.Heard.{heard_of}
use Rattle.sarif_entries.specs.File.{File}
use Rattle.sarif_entries.specs.Matching.{matches}
use Rattle.sarif_entries.specs.declared.entry.Entry.{Entry}
use Rattle.sarif_heard.specs.Heard.{tool_run}
use Rattle.sarif_model.specs.declared.record.Record.{Record}
use Rattle.sarif_policy.specs.Condition.{filter_with}
use Rattle.sarif_runs.specs.Judging.{run_values}
use Rattle.sarif_runs.specs.Placed.{Placed}
use Rattle.sarif_deciding.specs.declared.gone.GoneTest.{GoneTest}

-- these entries with their conditions alone
abbrev pub filters_of : List Entry → List Entry
filters_of entries = map (λ (e : Entry). filter_with e.conditions) entries

-- the tool of a result was heard, and no filter matches the result
abbrev pub gone_by : GoneTest → Record → Bool
gone_by test r =
    heard_of test.heard (Some r.tool)
    && not (list_any (λ e. matches test.filters.today e r) test.filters.entries)

-- by these tools and filters a result went away from these input runs
pub record IsTestOf (file : File) (runs : List Placed) (test : GoneTest) : Type 0 where
  pub heard : test.heard ≡ map tool_run (run_values runs)
  pub filters : test.filters ≡ record { entries = filters_of file.entries; today = None }
