-- Which tools were heard in the input runs: only of these it is known what they no longer find (SARIF 2.1.0, invocation
-- object, "executionSuccessful property"; run object, "results property").
use Rattle.std.specs.Prelude.{ℕ, Bool, List, Option, map}
use Rattle.sarif_model.specs.Driver.{tool_name}
use Rattle.serde_json.specs.Data.{Data}
use Rattle.sarif_read.specs.Failed.{failed}
use Rattle.sarif_accept.specs.declared.heard.ToolRun.{ToolRun}
use Rattle.sarif_accept.specs.Heard.{heard_of}

-- what a run says about its tool
abbrev pub tool_run : Data → ToolRun
tool_run run = record { tool = tool_name run; failed = failed run }

-- whether a tool was heard: an input run is of it, and none of them failed; no tool in particular, if there are input
-- runs and none failed
abbrev pub heard : List Data → Option (List ℕ) → Bool
heard runs = heard_of (map tool_run runs)
