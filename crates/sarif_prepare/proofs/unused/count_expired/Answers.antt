use Rattle.std.proofs.Common.{◌∙◌}
use Rattle.sarif_prepare.proofs.Expired.{all_expired}
use Rattle.sarif_prepare.proofs.unused.count_expired.Goals as goal

pub returns : goal.returns
returns c = λ rs. c.count_past.ensures.count ∙ rw (c.today.ensures, c.entries.ensures) (all_expired c.args.file.now rs)
