use Rattle.std.proofs.Common.{refl}
use Rattle.sarif_request.proofs.option_rows.rows.Goals as goal

-- the rows are computed one by one
pub returns : goal.returns
returns c = rw c.as_slice.ensures refl
