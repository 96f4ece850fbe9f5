use Rattle.std.proofs.Common.{◌≡◌, ◌≤◌, ◌++◌, drop, map}
use Rattle.sarif_model.specs.Limits.{most_bytes}
use Rattle.sarif_known.specs.KnownRun.{artifact_at, bases_alone}
use Rattle.sarif_known.specs.Internal.Tokens.{each_tokens, least_bytes}
use Rattle.sarif_known.proofs.known_run.push_artifacts.Given as goal

abbrev pub invariant-loop-found : goal.invariant-loop-found
invariant-loop-found l = record {
  added : l.out ++ each_tokens (map artifact_at (bases_alone (map (λ r. r.now) (drop l.found-index l.records))))
      ≡ l.initial.out ++ each_tokens (map artifact_at (bases_alone (map (λ r. r.now) l.records)));
  short : least_bytes l.initial.out ≤ most_bytes → least_bytes l.out ≤ most_bytes;
}
