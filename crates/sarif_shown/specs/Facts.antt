-- What reports are made from.
use Rattle.std.specs.Prelude.{ℕ, List, Option, option_map}
use Rattle.sarif_conditions.specs.declared.facts.PolicyFacts.{PolicyFacts}
use Rattle.sarif_counts.specs.declared.life.Life.{Life}
use Rattle.sarif_options.specs.declared.policy.Policy.{Policy}
use Rattle.sarif_counts.specs.Counts.{count_at}
use Rattle.sarif_counts.specs.Hits.{Count}
use Rattle.sarif_findings.specs.declared.finding.Finding.{Finding}
use Rattle.sarif_findings.specs.declared.reporting.Show.{Show}
use Rattle.sarif_scope.specs.declared.facts.ChangeFacts.{ChangeFacts}
use Rattle.sarif_shown.specs.declared.told.ReportInput.{ReportInput}

-- the facts about a merged log
pub record Facts : Type 0 where
  -- how many results it has, by state, level and suppression
  pub count : Count
  -- the policy of the gate
  pub policy : Policy
  -- which of the reported results are shown
  pub show : Show
  -- the template of the links of places, if they are linked
  pub link : Option (List ℕ)
  -- the shown results, in the order of the log
  pub findings : List Finding
  -- how many input runs have no results
  pub without : ℕ
  -- how many entries of the suppression file match no current result
  pub unused : ℕ
  -- what is for later merges, if anything is
  pub life : Option Life
  -- what the gate says about a change, if it checks one
  pub change : Option ChangeFacts
  -- what the conditions of the gate's policy decide, if it has one
  pub ruling : Option PolicyFacts

-- what a report receives
abbrev pub facts_of : ReportInput → Facts
facts_of told = record {
  count = count_at told.counts.now;
  policy = told.policy.now;
  show = told.show;
  link = option_map (λ link. link.now) told.link;
  findings = told.findings.now;
  without = told.without;
  unused = told.unused;
  life = option_map (λ life. life.now) told.life;
  change = told.change;
  ruling = option_map (λ ruling. ruling.now) told.ruling;
}
