use Rattle.std.proofs.Common.{None}
use Rattle.sarif_entries.specs.Matching.{matches}
use Rattle.sarif_conditions.proofs.Currents.{any_current}
use Rattle.sarif_conditions.proofs.trying.is_used.Goals as goal

pub returns : goal.returns
returns c = any_current _ (λ found. matches None c.args.filter.now found) c.args.results.now c.any_met.ensures
