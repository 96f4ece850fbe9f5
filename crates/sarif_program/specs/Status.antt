-- The program's exit status after a merge.
use Rattle.std.specs.Prelude.{ℕ}
use Rattle.sarif_counts.specs.declared.gate_verdict.Verdict.{Verdict}
use Rattle.sarif_counts.specs.declared.gate_verdict.Verdict.TheVariants.{Pass, Fail}

-- after an accepted merge whose summary was written
abbrev pub verdict_status : Verdict → ℕ
verdict_status Pass = 0
verdict_status Fail = 1
