-- The parts of baseline runs, each with the number of its unmatched results.
use Rattle.std.specs.Prelude.{◌≡◌, ℕ, Bool, List, [], ◌∷◌, Some, map, take, drop, length, ⊤}
use Rattle.serde_json.specs.Data.{Data}
use Rattle.serde_json.specs.View.{members_view}
use Rattle.sarif_model.specs.Run.{present, results_of}
use Rattle.sarif_runs.specs.Placed.{Placed}
use Rattle.sarif_results.specs.Drafts.{members_in}
use Rattle.sarif_log.specs.declared.run_parts.RunParts.{RunParts}
use Rattle.sarif_prepare.specs.Internal.Leftover.{not_taken}
use Rattle.sarif_log.specs.MergedRuns.{bare}

-- how many results of each run aren't absent already
abbrev pub present_counts : List Placed → List ℕ
present_counts runs = map (λ p. length (present (results_of p.run))) runs

-- how many are not taken
abbrev pub left_count : List Bool → ℕ
left_count taken = length (not_taken taken taken)

-- whether the parts are those of the runs, each with the number of its results that are not taken
abbrev pub AreLeftParts : List RunParts → List Bool → List Data → Type 0
AreLeftParts [] taken [] = ⊤
AreLeftParts [] taken (run ∷ runs) = ⊥
AreLeftParts (parts ∷ more) taken [] = ⊥
AreLeftParts (parts ∷ more) taken (run ∷ runs) =
    let n = length (present (results_of run)) in
    (members_view parts.members.entries ≡ bare (members_in run))
    × (parts.results ≡ Some (left_count (take n taken)))
    × AreLeftParts more (drop n taken) runs
