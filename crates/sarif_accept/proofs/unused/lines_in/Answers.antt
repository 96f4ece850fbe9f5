use Rattle.json_parts.specs.Indexed.{data_of}
use Rattle.sarif_accept.specs.NewFile.{entries_in}
use Rattle.sarif_accept.proofs.Flags.{lines_of_marks}
use Rattle.sarif_accept.proofs.Taken.{nodes_are}
use Rattle.sarif_accept.proofs.unused.lines_in.Goals as goal

pub returns : goal.returns
returns g c = λ rs is.
    let lines = lines_of_marks c.args.file.now rs c.args.marks.now (entries_in (data_of c.args.node.now)) is in
    let values = nodes_are c.in_ok-nodes.nodes.items (data_of c.args.node.now) c.in_ok-nodes.ensures in
    rw lines at (rw (c.deref.ensures.value, values, c.today.ensures, c.entries.ensures, c.as_slice.ensures) at c.lines_of.ensures)
