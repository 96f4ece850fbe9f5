use Rattle.sarif_arguments.proofs.Plain.{plain_replaced}
use Rattle.sarif_arguments.proofs.laws.without_files_nothing_changes.Goals as goal

pub returns : goal.returns
returns g c = λ files words all. plain_replaced (g.F.ArgumentFiles.gives files) words all
