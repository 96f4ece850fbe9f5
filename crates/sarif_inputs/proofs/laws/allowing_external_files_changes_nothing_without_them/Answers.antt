use Rattle.sarif_inputs.proofs.AllowedAlike.{all_alike, baseline_alike, current_alike}
use Rattle.sarif_inputs.proofs.laws.allowing_external_files_changes_nothing_without_them.Goals as goal

pub returns : goal.returns
returns c = record { current = current_alike; baseline = baseline_alike; faults = all_alike }
