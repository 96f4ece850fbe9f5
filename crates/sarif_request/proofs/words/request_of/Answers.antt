use Rattle.std.proofs.Common.{refl}
use Rattle.sarif_request.proofs.words.request_of.Goals as goal

pub returns : goal.returns
returns c = record {
  logs = c.in_ok-logs.ensures;
  baselines = c.in_ok-baselines.ensures;
  suppress = c.in_ok-suppress.ensures;
  policy = c.in_ok-policy.ensures;
  diff = c.in_ok-diff.ensures;
  out = c.in_ok-out.ensures;
  reports = c.in_ok-reports.ensures;
  roots = c.in_ok-roots.ensures;
  show = c.requires.named;
  link = c.requires.linked;
  explain = c.is_set.ensures;
  screen = refl;
  renewal = c.in_ok-upkeep.ensures.renewal;
  unused = c.in_ok-upkeep.ensures.unused;
  known = c.in_ok-upkeep.ensures.known;
  choice = c.in_ok-choice.ensures;
  options = c.in_ok-options.ensures;
}
