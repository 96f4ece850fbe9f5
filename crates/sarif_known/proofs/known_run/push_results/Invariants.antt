use Rattle.std.proofs.Common.{◌≡◌, ◌++◌, ◌≤◌, drop, map}
use Rattle.sarif_model.specs.Limits.{most_bytes}
use Rattle.sarif_known.specs.Chosen.{known_as}
use Rattle.sarif_known.specs.KnownRun.{results_from}
use Rattle.sarif_known.specs.Internal.Tokens.{each_tokens, least_bytes}
use Rattle.sarif_known.proofs.known_run.push_results.Given as goal

abbrev pub invariant-loop-found : goal.invariant-loop-found
invariant-loop-found l = record {
  added : l.out ++ each_tokens (results_from l.next (map (λ r. known_as l.regions r.now) (drop l.found-index l.records)))
      ≡ l.initial.out ++ each_tokens (results_from 0 (map (λ r. known_as l.regions r.now) l.records));
  short : least_bytes l.initial.out ≤ most_bytes → least_bytes l.out ≤ most_bytes;
  small : l.next ≤ l.found-index;
}
