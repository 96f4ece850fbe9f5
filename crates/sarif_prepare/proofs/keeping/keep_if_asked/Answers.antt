use Rattle.sarif_prepare.proofs.keeping.keep_if_asked.Goals as goal

pub returns-in-Some-clause-kept : goal.returns-in-Some-clause-kept
returns-in-Some-clause-kept g c = λ now before h. rw c.in-Some.is (c.keep.ensures.kept now before h)

pub returns-in-Some-clause-unkept : goal.returns-in-Some-clause-unkept
returns-in-Some-clause-unkept g c = λ now before h. rw c.in-Some.is (c.keep.ensures.unkept now before h)
