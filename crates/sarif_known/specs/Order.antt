-- The runs of the known log, tool by tool.
use Rattle.std.specs.Prelude.{ℕ, not, if◌then◌else◌, ◌&&◌, List, [], ◌∷◌, ◌++◌, map, filter, bytes_eq}
use Rattle.std.specs.List.{flat_map, list_any}
use Rattle.sarif_evidence.specs.declared.version.MatchingVersion.{MatchingVersion}
use Rattle.sarif_evidence.specs.declared.version.MatchingVersion.TheVariants.{Two, Three}
use Rattle.sarif_entries.specs.Matching.{is_empty}
use Rattle.sarif_known.specs.Chosen.{Chosen}

-- the strings, each once at its first position, without the earlier ones
abbrev pub once_each : List (List ℕ) → List (List ℕ) → List (List ℕ)
once_each before [] = []
once_each before (x ∷ xs) =
    if list_any (bytes_eq x) before then once_each before xs
    else x ∷ once_each (before ++ x ∷ []) xs

-- the runs of that tool that have results
abbrev pub runs_of_tool : List Chosen → List ℕ → List Chosen
runs_of_tool runs tool =
    filter (λ run. bytes_eq run.tool tool && not (is_empty run.records)) runs

-- the tools in the order of their first runs
abbrev pub tools_of : List Chosen → List (List ℕ)
tools_of runs = once_each [] (map (λ run. run.tool) runs)

-- the input runs before the baseline runs; in version 3 after them, since it ranks from the end
abbrev pub in_turn : MatchingVersion → List Chosen → List Chosen → List Chosen
in_turn Two current baseline = current ++ baseline
in_turn Three current baseline = baseline ++ current

-- the runs that are written: the tools in the order of their first runs among those of the baselines and then of
-- the inputs; of a tool its runs with a result, in turn
abbrev pub known_runs : MatchingVersion → List Chosen → List Chosen → List Chosen
known_runs version current baseline =
    flat_map (runs_of_tool (in_turn version current baseline)) (tools_of (baseline ++ current))
