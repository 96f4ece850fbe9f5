use Rattle.std.proofs.Common.{◌≡◌, rules}
use Rattle.std.specs.Io.Take.{take_inner}
use Rattle.sarif_streams.specs.Counted.{inner_of}
use Rattle.sarif_arguments.proofs.Given.{given}
use Rattle.sarif_arguments.proofs.system.SystemFilesArgumentFiles.read.Goals as goal

pub returns : goal.returns
returns c =
    let named : (take_inner (inner_of c.new-2.result)).name.now ≡ c.args.name.now = search rules in
    let read = c.read_source.ensures in
    given c.args.name.now c.new-2.result c.read_source.new.source c.read_source.result named c.new-2.ensures.none
    read.bytes read.end read.within read.too_long read.counted
