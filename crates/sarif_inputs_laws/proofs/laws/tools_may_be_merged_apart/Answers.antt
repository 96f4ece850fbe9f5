use Rattle.sarif_inputs_laws.proofs.Parts.{matched_parts}
use Rattle.sarif_inputs_laws.proofs.laws.tools_may_be_merged_apart.Goals as goal

pub returns : goal.returns
returns c = λ version inputs logs more baselines others none apart. matched_parts inputs logs more baselines others version apart
