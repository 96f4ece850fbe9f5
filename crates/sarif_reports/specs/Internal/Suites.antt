-- The test suites of the report in JUnit XML while they are made.
use Rattle.std.specs.Prelude.{ℕ, List, [], ◌∷◌, ◌++◌, Option, Some, None, bytes_eq, map, unwrap_or, if◌then◌else◌}
use Rattle.std.specs.Borrow.{Bor}
use Rattle.std.specs.declared.alloc.Global.{Global}
use Rattle.std.specs.declared.string.String.{String}
use Rattle.std.specs.declared.vec.Vec.{Vec}
use Rattle.std.specs.HashMap.{HashMap, get_by_text}
use Rattle.sarif_shown.specs.declared.stopping.Stopping.{Stopping}
use Rattle.sarif_findings.specs.declared.finding.Finding.{Finding}
use Rattle.sarif_reports.specs.JunitReport.{results_of, suite_of, tools_of}

-- how many results with this plain name were counted
abbrev pub counted : {X S : Type 0} → HashMap (String X) ℕ S → List ℕ → ℕ
counted counts name = unwrap_or (get_by_text counts name) 0

-- a tool with its results
abbrev pub Suite : Type 0
Suite = List ℕ × List Finding

-- the suites, with this result at the end of its tool's
abbrev pub with_result : Finding → List Suite → List Suite
with_result f [] = (f.tool, f ∷ []) ∷ []
with_result f (s ∷ suites) =
    if bytes_eq f.tool s.0 then (s.0, s.1 ++ f ∷ []) ∷ suites else s ∷ with_result f suites

-- the tools with their results
abbrev pub suites_of : List Finding → List Suite
suites_of findings = map (λ tool. (tool, results_of findings tool)) (tools_of findings)

-- what a list of results points to
abbrev pub pointed : List (Bor Finding) → List Finding
pointed findings = map (λ f. f.now) findings

-- an entry of a table from tools to their results
abbrev pub seen_suite : Bor (List ℕ) × Vec (Bor Finding) Global → Suite
seen_suite entry = (entry.0.now, pointed entry.1.items)

-- the entries of such a table
abbrev pub seen_suites : {S : Type 0} → HashMap (Bor (List ℕ)) (Vec (Bor Finding) Global) S
    → List Suite
seen_suites table = map seen_suite table.entries

-- the suite of such an entry
abbrev pub entry_text : Stopping → Bor (List ℕ) × Vec (Bor Finding) Global → List ℕ
entry_text stopping entry = suite_of stopping entry.0.now (pointed entry.1.items)

-- the suite of an entry, if there is one
abbrev pub text_at : Stopping → Option (Bor (List ℕ) × Vec (Bor Finding) Global) → List ℕ
text_at stopping None = []
text_at stopping (Some entry) = entry_text stopping entry
