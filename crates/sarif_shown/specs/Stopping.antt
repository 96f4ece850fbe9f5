-- Which hits stop the change.
use Rattle.std.specs.Prelude.{Bool, true, false, not, ◌&&◌, Option, Some, None}
use Rattle.sarif_conditions.specs.declared.facts.PolicyFacts.{PolicyFacts}
use Rattle.sarif_counts.specs.Impacts.{is_hit}
use Rattle.sarif_counts.specs.declared.gate_verdict.Impact.{Impact}
use Rattle.sarif_counts.specs.declared.gate_verdict.Impact.TheVariants as impacts
use Rattle.sarif_counts.specs.declared.gate_verdict.Verdict.{Verdict}
use Rattle.sarif_counts.specs.declared.gate_verdict.Verdict.TheVariants.{Pass, Fail}
use Rattle.sarif_shown.specs.declared.stopping.Stopping.{Stopping}
use Rattle.sarif_shown.specs.declared.stopping.Stopping.TheVariants.{EachHit, NoHit, MarkedHit}

-- whether a result that does this is a hit of a condition that fails
abbrev pub is_marked : Impact → Bool
is_marked impacts.Stops = true
is_marked impacts.Hit = false
is_marked impacts.None = false

-- whether a result that does this stops the change
abbrev pub stops : Stopping → Impact → Bool
stops EachHit impact = is_hit impact
stops NoHit impact = false
stops MarkedHit impact = is_marked impact

-- whether it is a hit that doesn't
abbrev pub is_let_pass : Stopping → Impact → Bool
is_let_pass stopping impact = is_hit impact && not (stops stopping impact)

-- without a policy, each hit if the gate fails; with one, the hits of conditions that fail
abbrev pub stopping_by : Option PolicyFacts → Verdict → Stopping
stopping_by None Fail = EachHit
stopping_by None Pass = NoHit
stopping_by (Some ruling) verdict = MarkedHit
