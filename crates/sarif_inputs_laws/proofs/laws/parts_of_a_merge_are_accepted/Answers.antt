use Rattle.sarif_inputs_laws.proofs.Parts.{accepted_parts}
use Rattle.sarif_inputs_laws.proofs.laws.parts_of_a_merge_are_accepted.Goals as goal

pub returns : goal.returns
returns c = accepted_parts
