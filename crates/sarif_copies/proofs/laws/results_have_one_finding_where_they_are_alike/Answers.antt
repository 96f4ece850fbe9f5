use Rattle.sarif_copies.proofs.OneFinding.{alike_if_one, one_if_alike}
use Rattle.sarif_copies.proofs.laws.results_have_one_finding_where_they_are_alike.Goals as goal

pub returns : goal.returns
returns c = λ rs i k m n a b at_i at_k is_i is_k.
    (alike_if_one rs i k m n a b at_i at_k is_i is_k, one_if_alike rs i k m n a b at_i at_k is_i is_k)
