use Rattle.sarif_accept_laws.proofs.EntryMatches.{matches_is, own_matches}
use Rattle.sarif_accept_laws.proofs.FileRead.{alone_read}
use Rattle.sarif_accept_laws.proofs.laws.an_entry_accepts_its_result.Goals as goal

pub returns-clause-alone : goal.returns-clause-alone
returns-clause-alone c = λ r reason today until ms fits dated. alone_read r reason today until ms fits dated

pub returns-clause-matches : goal.returns-clause-matches
returns-clause-matches c = λ r reason today until is. matches_is r reason today until is

pub returns-clause-accepts : goal.returns-clause-accepts
returns-clause-accepts c = λ version r reason today until is. own_matches version r reason today until is
