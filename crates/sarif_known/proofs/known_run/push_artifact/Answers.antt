use Rattle.std.proofs.Common.{◌∙◌, ◌<◌, sym, length, inr, subst}
use Rattle.json.specs.Layout.{pretty}
use Rattle.sarif_model.specs.Limits.{most_bytes}
use Rattle.sarif_known.proofs.Lengths.{long_enough, short_enough}
use Rattle.sarif_known.proofs.known_run.push_artifact.Goals as goal

pub returns-then-is_long-clause-lost : goal.returns-then-is_long-clause-lost
returns-then-is_long-clause-lost c =
    inr (
      c.too_long.ensures,
      subst (λ ts. most_bytes < length (pretty ts)) c.in_ok-push_artifact_at.ensures
          (long_enough c.push_artifact_at.new.out (sym c.is_long.ensures ∙ c.if-is_long.true)),
    )

pub returns-clause-short : goal.returns-clause-short
returns-clause-short c = short_enough c.push_artifact_at.new.out (sym c.is_long.ensures ∙ c.if-is_long.false)
