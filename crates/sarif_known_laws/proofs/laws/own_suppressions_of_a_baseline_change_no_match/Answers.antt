use Rattle.sarif_known_laws.proofs.SamePartners.{same_partners, same_states}
use Rattle.sarif_known_laws.proofs.laws.own_suppressions_of_a_baseline_change_no_match.Goals as goal

pub returns : goal.returns
returns c = record {
  partners = λ v cs bs others are. same_partners v cs bs others are;
  states = λ v r bs others partner are. same_states v r bs others partner are;
}
