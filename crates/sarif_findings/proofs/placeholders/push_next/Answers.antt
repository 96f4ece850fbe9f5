use Rattle.std.proofs.Common.{map, refl, arith}
use Rattle.serde_json.specs.View.{view}
use Rattle.sarif_findings.specs.Internal.Unlinked.{left}
use Rattle.sarif_findings.proofs.MessageMore.{skip_step, piece_step}
use Rattle.sarif_findings.proofs.placeholders.push_next.Goals as goal

pub returns-then-skip-gt0 : goal.returns-then-skip-gt0
returns-then-skip-gt0 c = λ more.
    skip_step c.args.so_far.now (map view c.args.args.now) c.args.skip _ (left c.args.rest.now) c.args.c more refl (λ e. omega (arith, e))

pub returns : goal.returns
returns c = λ more.
    piece_step c.args.so_far.now c.push_piece.new.so_far (map view c.args.args.now) c.args.skip c.in_ok-more.more _
    (left c.args.rest.now) c.args.c more refl (omega arith) c.in_ok-more.ensures.0 c.in_ok-more.ensures.1
