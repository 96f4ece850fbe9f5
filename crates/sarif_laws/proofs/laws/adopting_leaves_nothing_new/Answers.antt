use Rattle.sarif_laws.proofs.NothingNew.{law_of_adopting}
use Rattle.sarif_laws.specs.Adopting.{text_known}
use Rattle.sarif_laws.proofs.Remembered.{known_read}
use Rattle.sarif_laws.proofs.laws.adopting_leaves_nothing_new.Goals as goal

pub returns : goal.returns
returns c = record {
  bytes = law_of_adopting;
  text = λ inputs policy knowing later none utf8 whole next. law_of_adopting inputs policy knowing (text_known inputs policy knowing) later none whole
      (known_read inputs policy knowing none utf8) next;
}
