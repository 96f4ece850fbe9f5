use Rattle.sarif_log.proofs.Uncopied.{if_both, merged_as}
use Rattle.sarif_log.proofs.assembling.fn.assemble.write.Goals as goal

pub returns : goal.returns
returns g c = record {
  counted =
      if_both _ _ _ c.write_log.result c.write_log.ensures.log c.write_log.ensures.findings
      (λ made. merged_as c.captures.prepared c.captures.options.now.policy made.0);
  expired = c.write_log.ensures.expired;
  life = c.write_log.ensures.life;
  told = c.write_log.ensures.told;
}
