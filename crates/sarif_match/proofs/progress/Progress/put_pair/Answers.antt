use Rattle.std.proofs.Common.{refl}
use Rattle.sarif_match.proofs.PutLemmas.{IsSound-put}
use Rattle.sarif_match.proofs.progress.Progress.put_pair.Goals as goal

pub returns-clause-sound : goal.returns-clause-sound
returns-clause-sound c =
    IsSound-put _ _ c.args.self.now _ c.args.i c.args.j c.requires.sound c.requires.current c.requires.left c.requires.baseline refl refl refl
