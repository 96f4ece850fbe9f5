use Rattle.std.proofs.Common.{sym, ap, ◌∙◌}
use Rattle.sarif_findings.specs.Placeholders.{index_from}
use Rattle.sarif_findings.specs.Internal.Unlinked.{left}
use Rattle.sarif_findings.proofs.placeholders.index_left.Goals as goal

pub returns-in-Err-clause-said : goal.returns-in-Err-clause-said
returns-in-Err-clause-said c =
    sym (c.in-Err.ensures.ends (left c.next.new.self))
    ∙ sym (ap (index_from c.loop-c.number c.loop-c.count) c.in-Some.ensures.is) ∙ c.loop-c.invariant.told

pub loop-c-smaller : goal.loop-c-smaller
loop-c-smaller c = c.in-Some.ensures.shorter

pub loop-c-preserved : goal.loop-c-preserved
loop-c-preserved c = record {
  small = c.in-Ok.ensures.less;
  few = c.in-Ok.ensures.more;
  told = sym (c.in-Ok.ensures.goes (left c.next.new.self))
      ∙ sym (ap (index_from c.loop-c.number c.loop-c.count) c.in-Some.ensures.is) ∙ c.loop-c.invariant.told;
}

pub returns-clause-said : goal.returns-clause-said
returns-clause-said c = sym (ap (index_from c.loop-c.number c.loop-c.count) c.in_default.ensures.is) ∙ c.loop-c.invariant.told
