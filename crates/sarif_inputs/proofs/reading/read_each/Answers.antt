use Rattle.sarif_inputs.proofs.ReadParts.{read_shown}
use Rattle.sarif_inputs.proofs.reading.read_each.Goals as goal

pub returns : goal.returns
returns g c = read_shown c.args.allow_external c.in_ok-each.each.items c.args.indexes.now c.in_ok-read.read.items c.in_ok-each.ensures c.in_ok-read.ensures
