use Rattle.sarif_prepare.specs.Kept.{change_in}
use Rattle.sarif_prepare.specs.Ruled.{policy_in}
use Rattle.sarif_prepare.proofs.marking.mark_if_chosen.Goals as goal

pub mark-requires-clause-together : goal.mark-requires-clause-together
mark-requires-clause-together g c κs within = (c.args.rules.now.file.now, c.requires.together.0, c.requires.together.1, c.requires.together.2)

pub mark-requires-clause-narrowed : goal.mark-requires-clause-narrowed
mark-requires-clause-narrowed g c κs within = (change_in c.args.rules.now, c.requires.narrowed)

pub returns-in-Some-clause-ok : goal.returns-in-Some-clause-ok
returns-in-Some-clause-ok g c = λ now before h. rw c.in-Some.is (c.mark.ensures.ok c.args.rules.now.file.now now before h (change_in c.args.rules.now) c.requires.narrowed
    (policy_in c.args.rules.now) (c.requires.decided now before h))

pub returns-in-Some-clause-fits : goal.returns-in-Some-clause-fits
returns-in-Some-clause-fits g c = λ now before h. rw c.in-Some.is (c.mark.ensures.fits c.args.rules.now.file.now now before h (change_in c.args.rules.now) c.requires.narrowed
    (policy_in c.args.rules.now) (c.requires.decided now before h))

pub returns-in-Some-clause-err : goal.returns-in-Some-clause-err
returns-in-Some-clause-err g c = λ now before h. rw c.in-Some.is (c.mark.ensures.err c.args.rules.now.file.now now before h (change_in c.args.rules.now) c.requires.narrowed
    (policy_in c.args.rules.now) (c.requires.decided now before h))
