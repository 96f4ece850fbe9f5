use Rattle.std.proofs.Common.{refl, ◌∙◌}
use Rattle.sarif_suppress.proofs.suppressions.Suppressions.unused.Goals as goal

pub returns : goal.returns
returns g c = c.count_unused.ensures.count ∙ rw (c.today.ensures, c.entries.ensures) refl
