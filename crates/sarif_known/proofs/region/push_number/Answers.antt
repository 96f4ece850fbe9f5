use Rattle.std.proofs.Common.{arith}
use Rattle.json.proofs.Printed.Decimals.{IsNumber-decimal}
use Rattle.sarif_known.proofs.region.push_number.Goals as goal

pub token-requires-2 : goal.token-requires-2
token-requires-2 c = rw (c.format.ensures.text) (IsNumber-decimal c.args.value (omega (arith, c.ranges.value)))
