-- The objects of the report for GitLab.
use Rattle.std.specs.Prelude.{ℕ, Bool, true, List, [], ◌∷◌, ◌++◌, ◌==◌, codes, if◌then◌else◌}
use Rattle.serde_json.specs.Data.{Data}
use Rattle.serde_json.specs.Written.{comma_if, compact_text}
use Rattle.sarif_findings.specs.declared.finding.Finding.{Finding}
use Rattle.sarif_reports.specs.declared.ranked.Ranked.{Ranked}
use Rattle.sarif_reports.specs.GitlabReport.{mark_of, quality_of, rank_among}

-- the object of a result with its rank
abbrev pub object_of : Ranked → Data
object_of ranked = quality_of ranked.finding.now (mark_of ranked.finding.now ranked.rank)

-- the objects of these results, which follow the earlier ones
abbrev pub objects_after : List Finding → List Finding → List Data
objects_after earlier [] = []
objects_after earlier (f ∷ fs) =
    quality_of f (mark_of f (rank_among earlier f)) ∷ objects_after (earlier ++ f ∷ []) fs

-- their JSON with commas between them, and one before them if others come first
abbrev pub joined_objects : Bool → List Data → List ℕ
joined_objects later [] = []
joined_objects later (d ∷ ds) = comma_if later ++ (compact_text d ++ joined_objects true ds)

-- what comes before the objects of the results from this place on
abbrev pub before_part : List ℕ → ℕ → List ℕ
before_part begin start = if start == 0 then begin else codes ","
