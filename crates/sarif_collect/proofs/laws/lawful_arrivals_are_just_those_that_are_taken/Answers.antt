use Rattle.sarif_collect.proofs.AllRuns.{accepted_lawful, lawful_accepted, lawful_held, lawful_closed}
use Rattle.sarif_collect.proofs.laws.lawful_arrivals_are_just_those_that_are_taken.Goals as goal

pub returns-clause-taken : goal.returns-clause-taken
returns-clause-taken g c =
    λ runs arrivals.
    (λ lawful. (lawful_accepted runs arrivals lawful, lawful_closed runs arrivals lawful), λ h. accepted_lawful runs arrivals h.0 h.1)

pub returns-clause-assembled : goal.returns-clause-assembled
returns-clause-assembled g c = λ runs arrivals lawful. lawful_held runs arrivals lawful
