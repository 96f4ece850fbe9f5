use Rattle.sarif_shown.proofs.OptionsListed.{hits_by_level, others_by_level}
use Rattle.sarif_shown.proofs.laws.hits_of_the_options_are_listed_by_level.Goals as goal

pub returns-clause-hits : goal.returns-clause-hits
returns-clause-hits c = hits_by_level

pub returns-clause-others : goal.returns-clause-others
returns-clause-others c = others_by_level
