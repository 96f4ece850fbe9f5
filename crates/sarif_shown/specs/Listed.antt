-- The order in which reports list the reported results of a merged log: the hits first, those that stop the change before
-- the others, then the other results. In each group the worst level is first, and within a level the order is that of the
-- log.
use Rattle.std.specs.Prelude.{ℕ, Bool, List, ◌++◌, ◌==◌}
use Rattle.std.specs.List.{filter}
use Rattle.sarif_model.specs.declared.kinds.Level.{Level}
use Rattle.sarif_model.specs.declared.kinds.Level.TheVariants.{NoLevel, Note, Warning, Error}
use Rattle.sarif_model.specs.Level.{severity}
use Rattle.sarif_counts.specs.declared.gate_verdict.Impact.{Impact}
use Rattle.sarif_counts.specs.declared.gate_verdict.Impact.TheVariants as impacts
use Rattle.sarif_findings.specs.declared.finding.Finding.{Finding}

-- how much a result does to the gate
abbrev pub weight : Impact → ℕ
weight impacts.None = 0
weight impacts.Hit = 1
weight impacts.Stops = 2

-- whether a finding does this to the gate
abbrev pub does : Impact → Finding → Bool
does impact f = weight f.impact == weight impact

-- the findings that do this
abbrev pub doing : Impact → List Finding → List Finding
doing impact findings = filter (does impact) findings

-- the findings of a level
abbrev pub of_level : Level → List Finding → List Finding
of_level level findings = filter (λ f. severity f.level == severity level) findings

-- the findings of each level together, the worst level first
unfoldable pub by_level : List Finding → List Finding
by_level findings =
    of_level Error findings ++ (of_level Warning findings
    ++ (of_level Note findings ++ of_level NoLevel findings))

-- the hits: only with a policy some stop the change, and others don't
abbrev pub hits_among : List Finding → List Finding
hits_among findings =
    by_level (doing impacts.Stops findings) ++ by_level (doing impacts.Hit findings)

abbrev pub others_among : List Finding → List Finding
others_among findings = by_level (doing impacts.None findings)

abbrev pub listed : List Finding → List Finding
listed findings = hits_among findings ++ others_among findings
