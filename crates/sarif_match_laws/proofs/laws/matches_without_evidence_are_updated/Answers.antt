use Rattle.sarif_match_laws.proofs.LastTier.{last_updated, unlike_updated}
use Rattle.sarif_match_laws.proofs.laws.matches_without_evidence_are_updated.Goals as goal

pub returns : goal.returns
returns c = record {
  last = λ current baseline i j r b mine theirs once also partner at. last_updated current baseline i j r b mine theirs at once also partner;
  snippets = unlike_updated;
}
