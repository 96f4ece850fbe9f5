use Rattle.std.proofs.Common.{rules, ◌≡◌, ◌+◌, true, arith}
use Rattle.std.specs.List.{list_all, slice_range}
use Rattle.sarif_findings.specs.Internal.Brackets.{is_ordinary}
use Rattle.sarif_findings.proofs.BracketsMore.{parts_go}
use Rattle.sarif_findings.proofs.brackets.ordinary_parts.Goals as goal

pub loop-end-preserved : goal.loop-end-preserved
loop-end-preserved c =
    let part : list_all is_ordinary (slice_range c.args.bytes.now c.loop-end.end (c.loop-end.end + 64)) ≡ true = search rules in
    record {
      within = omega (arith, c.loop-end-test.true);
      ordinary = parts_go c.args.bytes.now c.loop-end.end (c.loop-end.end + 64) (omega arith) c.loop-end.invariant.ordinary part;
    }
