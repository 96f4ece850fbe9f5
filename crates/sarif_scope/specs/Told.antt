-- The gate, its verdict and the summary by the counts and by what the gate says about a change, if it says anything.
use Rattle.std.specs.Prelude.{ℕ, ◌-◌, List, Option, Some, None, option_map}
use Rattle.serde_json.specs.Data.{Data}
use Rattle.sarif_counts.specs.Gate.{gate_of}
use Rattle.sarif_counts.specs.Hits.{Count, hits_of, verdict_of}
use Rattle.sarif_counts.specs.Summary.{summary_of}
use Rattle.sarif_counts.specs.declared.gate_verdict.Verdict.{Verdict}
use Rattle.sarif_options.specs.declared.policy.Policy.{Policy}
use Rattle.sarif_scope.specs.Counted.{verdict_on}
use Rattle.sarif_scope.specs.Gate.{facts_of, gate_of_change}
use Rattle.sarif_scope.specs.Summary.{summary_of_change}
use Rattle.sarif_scope.specs.declared.facts.ChangeFacts.{ChangeFacts}
use Rattle.sarif_scope.specs.declared.gated.GatedChange.{GatedChange}

-- what the gate of a log with these runs says about a change, if there is one
abbrev pub facts_by : Option GatedChange → Policy → List Data → Option ChangeFacts
facts_by change policy runs = option_map (λ c. facts_of c policy runs) change

-- the hits but those outside
abbrev pub hits_left : ChangeFacts → Count → Policy → ℕ
hits_left facts count policy = hits_of count policy - facts.outside

abbrev pub gate_told : Option ChangeFacts → Count → Policy → ℕ → ℕ → Data
gate_told None count policy without unused = gate_of count policy without unused
gate_told (Some facts) count policy without unused =
    gate_of_change count (hits_left facts count policy) facts policy without unused

-- the hits, with a change or without one
abbrev pub hits_told : Option ChangeFacts → Count → Policy → ℕ
hits_told None count policy = hits_of count policy
hits_told (Some facts) count policy = hits_left facts count policy

-- how many results would be hits without the change, and aren't inside: none without one
abbrev pub outside_told : Option ChangeFacts → ℕ
outside_told None = 0
outside_told (Some facts) = facts.outside

abbrev pub verdict_told : Option ChangeFacts → Count → Policy → Verdict
verdict_told None count policy = verdict_of count policy
verdict_told (Some facts) count policy = verdict_on (hits_left facts count policy) policy

abbrev pub summary_told : Option ChangeFacts → Count → Policy → List ℕ
summary_told None count policy = summary_of count policy
summary_told (Some facts) count policy =
    summary_of_change count (hits_left facts count policy) facts policy
