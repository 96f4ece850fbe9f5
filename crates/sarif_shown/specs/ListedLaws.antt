-- Properties of the order in which reports list results.
use Rattle.std.specs.Prelude.{◌≡◌, ◌≤◌, List, ◌&&◌, ◌==◌}
use Rattle.std.specs.List.{filter}
use Rattle.sarif_model.specs.declared.kinds.Level.{Level}
use Rattle.sarif_model.specs.Level.{severity}
use Rattle.sarif_counts.specs.declared.gate_verdict.Impact.{Impact}
use Rattle.sarif_findings.specs.declared.finding.Finding.{Finding}
use Rattle.sarif_shown.specs.Listed.{does, weight}

-- f may be before g: what stops the change is before other hits, and these before the rest. If both do the same to the
-- gate, the level of f is not lower
pub record MayPrecede (f g : Finding) : Type 0 where
  pub impact : weight g.impact ≤ weight f.impact
  pub level : weight f.impact ≡ weight g.impact → severity g.level ≤ severity f.level

-- the findings of a level that do this to the gate
abbrev pub of_standing : Impact → Level → List Finding → List Finding
of_standing impact level findings =
    filter (λ f. does impact f && severity f.level == severity level) findings
