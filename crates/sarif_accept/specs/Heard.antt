-- Which tools were heard: only of these it is known what they no longer find.
use Rattle.std.specs.Prelude.{ℕ, Bool, not, ◌&&◌, List, Option, Some, None, bytes_eq}
use Rattle.std.specs.List.{list_any}
use Rattle.sarif_entries.specs.Matching.{is_empty}
use Rattle.sarif_accept.specs.declared.heard.ToolRun.{ToolRun}

abbrev pub is_of : List ℕ → ToolRun → Bool
is_of tool run = bytes_eq run.tool tool

abbrev pub is_failed_of : List ℕ → ToolRun → Bool
is_failed_of tool run = is_of tool run && run.failed

-- a tool was heard if one of the runs is of it and none of them failed; no tool in particular, if there are runs and
-- none failed
abbrev pub heard_of : List ToolRun → Option (List ℕ) → Bool
heard_of runs None = not (is_empty runs) && not (list_any (λ run. run.failed) runs)
heard_of runs (Some tool) =
    list_any (is_of tool) runs && not (list_any (is_failed_of tool) runs)
