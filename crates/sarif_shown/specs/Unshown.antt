-- The reported results that reports don't show.
use Rattle.std.specs.Prelude.{ℕ, ◌-◌, Option, Some, None}
use Rattle.sarif_model.specs.declared.kinds.Level.TheVariants.{NoLevel}
use Rattle.sarif_options.specs.declared.policy.Policy.{Policy}
use Rattle.sarif_counts.specs.Hits.{Count, hits_of}
use Rattle.sarif_findings.specs.declared.reporting.Show.{Show}
use Rattle.sarif_findings.specs.declared.reporting.Show.TheVariants.{Hits, All}
use Rattle.sarif_scope.specs.Told.{hits_told}
use Rattle.sarif_scope.specs.declared.facts.ChangeFacts.{ChangeFacts}

-- how many results are reported: as many as there would be hits if results of every level were hits
abbrev pub reported_number : Count → Policy → ℕ
reported_number count policy = hits_of count (record policy { fail_on = NoLevel })

-- how many results are reported, with a change or without one
abbrev pub reported_told : Option ChangeFacts → Count → Policy → ℕ
reported_told None count policy = reported_number count policy
reported_told (Some facts) count policy = reported_number count policy - facts.unreported

-- how many of them are not shown
abbrev pub unshown_number : Option ChangeFacts → Show → Count → Policy → ℕ
unshown_number change Hits count policy =
    reported_told change count policy - hits_told change count policy
unshown_number change All count policy = 0
