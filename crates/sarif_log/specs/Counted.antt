-- What assembling a merged log gives whose copies aren't counted.
use Rattle.std.specs.Prelude.{◌≡◌, ℕ, List, Option, length, option_map}
use Rattle.serde_json.specs.Data.{Data}
use Rattle.serde_json.specs.Written.{compact_text}
use Rattle.sarif_scope.specs.declared.gated.GatedChange.{GatedChange}
use Rattle.sarif_conditions.specs.declared.facts.PolicyFacts.{PolicyFacts}
use Rattle.sarif_findings.specs.declared.finding.Finding.{Finding}
use Rattle.sarif_options.specs.declared.policy.Policy.{Policy}
use Rattle.sarif_log.specs.Assembled.{HasGate}
use Rattle.sarif_log.specs.Copies.{naming}
use Rattle.sarif_log.specs.declared.copies.CopyPlace.{CopyPlace}
use Rattle.sarif_log.specs.declared.merged.Merged.{Merged}
use Rattle.sarif_log.specs.Log.{log_with}
use Rattle.sarif_log.specs.Ruled.{gate_ruled}

-- a merge whose log has these runs, and whose gate counts the results of other runs, checks this change, if there is
-- one, says what the conditions of a policy decide, if there is one, and names these copies
pub record IsLogWith (runs counted : List Data) (places : Option (List CopyPlace))
    (gated : Option GatedChange) (policy : Policy) (decided : Option PolicyFacts)
    (without unused : ℕ) (merged : Merged) : Type 0 where
  pub log : merged.log ≡ compact_text
      (log_with (naming places (gate_ruled decided gated counted policy without unused)) runs)
  pub gate : HasGate counted gated policy decided without unused merged
  pub named : merged.copies ≡ option_map length places

-- such a merge, with the findings of the runs that are counted, for its reports
pub record IsMergedAs (runs counted : List Data) (places : Option (List CopyPlace))
    (gated : Option GatedChange) (policy : Policy) (decided : Option PolicyFacts)
    (without unused : ℕ) (found : List Finding) (merged : Merged) : Type 0 where
  pub written : IsLogWith runs counted places gated policy decided without unused merged
  pub told : merged.findings.items ≡ found
  pub copies : merged.copies ≡ option_map length places
