use Rattle.sarif_accept.specs.Heard.{heard_of}
use Rattle.sarif_accept.proofs.Flags.{flags_of_marks}
use Rattle.sarif_accept.proofs.keep.kept_entries.Goals as goal

pub returns : goal.returns
returns g c = λ rs is.
    let flags = flags_of_marks c.args.prune (heard_of c.args.heard.now) c.args.file.now rs c.args.marks.now is in
    rw flags at (rw (c.today.ensures, c.entries.ensures, c.as_slice.ensures) at c.flags_of.ensures)
