-- The verdict and the numbers that reports show: with a policy, what its conditions decide.
use Rattle.std.specs.Prelude.{ℕ, ◌-◌, List, Option, Some, None, length}
use Rattle.std.specs.Option.{option_map_or}
use Rattle.sarif_conditions.specs.Facts.{failed_told, verdict_told as verdict_of_conditions}
use Rattle.sarif_conditions.specs.declared.facts.PolicyFacts.{PolicyFacts}
use Rattle.sarif_counts.specs.declared.gate_verdict.Verdict.{Verdict}
use Rattle.sarif_findings.specs.declared.reporting.Show.{Show}
use Rattle.sarif_findings.specs.declared.reporting.Show.TheVariants.{Hits, All}
use Rattle.sarif_scope.specs.Told.{hits_told, outside_told, verdict_told}
use Rattle.sarif_shown.specs.declared.noted.Noted.{Noted}
use Rattle.sarif_shown.specs.declared.stopping.Stopping.{Stopping}
use Rattle.sarif_shown.specs.Facts.{Facts}
use Rattle.sarif_shown.specs.Sentences.{conditions_end, gate_end}
use Rattle.sarif_shown.specs.Stopping.{stopping_by}
use Rattle.sarif_shown.specs.Unshown.{unshown_number}

-- ---- without a policy the verdict or the number that is given

abbrev pub verdict_ruled : Option PolicyFacts → Verdict → Verdict
verdict_ruled None verdict = verdict
verdict_ruled (Some ruling) verdict = verdict_of_conditions ruling

abbrev pub hits_ruled : Option PolicyFacts → ℕ → ℕ
hits_ruled None hits = hits
hits_ruled (Some ruling) hits = ruling.hits

abbrev pub left_by : Show → PolicyFacts → ℕ
left_by Hits ruling = ruling.reported - ruling.hits
left_by All ruling = 0

abbrev pub unshown_ruled : Option PolicyFacts → Show → ℕ → ℕ
unshown_ruled None show unshown = unshown
unshown_ruled (Some ruling) show unshown = left_by show ruling

-- with a policy each condition has its own results outside of the change
abbrev pub outside_ruled : Option PolicyFacts → ℕ → ℕ
outside_ruled None outside = outside
outside_ruled (Some ruling) outside = 0

abbrev pub end_ruled : Option PolicyFacts → ℕ → ℕ → List ℕ
end_ruled None hits max = gate_end hits max
end_ruled (Some ruling) hits max =
    conditions_end ruling.hits (failed_told ruling) (length ruling.conditions)

-- the most bytes of this, if its numbers have at most 64 bits
abbrev pub most_of_ending : Option PolicyFacts → ℕ
most_of_ending None = 47
most_of_ending (Some ruling) = 81

-- ---- what reports say about a merge with these facts

abbrev pub gate_verdict : Facts → Verdict
gate_verdict facts =
    verdict_ruled facts.ruling (verdict_told facts.change facts.count facts.policy)

abbrev pub gate_hits : Facts → ℕ
gate_hits facts = hits_ruled facts.ruling (hits_told facts.change facts.count facts.policy)

-- what follows the verdict
abbrev pub gate_ending : Facts → List ℕ
gate_ending facts =
    end_ruled facts.ruling (hits_told facts.change facts.count facts.policy) facts.policy.max

abbrev pub gate_stopping : Facts → Stopping
gate_stopping facts =
    stopping_by facts.ruling (verdict_told facts.change facts.count facts.policy)

-- how many reported results are not shown
abbrev pub unshown_results : Facts → ℕ
unshown_results facts =
    unshown_ruled facts.ruling facts.show
    (unshown_number facts.change facts.show facts.count facts.policy)

-- the numbers of what wasn't checked
abbrev pub noted_in : Facts → Noted
noted_in facts = record {
  without = facts.without;
  unused = facts.unused;
  filters = option_map_or (λ (ruling : PolicyFacts). ruling.unused_filters) facts.ruling 0;
  outside = outside_ruled facts.ruling (outside_told facts.change);
  unchecked = option_map_or (λ (ruling : PolicyFacts). ruling.unchecked) facts.ruling 0;
}
