use Rattle.std.proofs.Common.{codes, ap, ◌∙◌}
use Rattle.json_parts.specs.Without.{without}
use Rattle.serde_json.specs.Written.{has_float}
use Rattle.sarif_runs.specs.Internal.Opened.{placed_of}
use Rattle.sarif_results.specs.Drafts.{members_in}
use Rattle.sarif_prepare.proofs.RunPartsOf.{beside_members, beside_whole}
use Rattle.sarif_prepare.proofs.parts_of_runs.run_with.Goals as goal

pub make_parts-requires : goal.make_parts-requires
make_parts-requires c = record { whole = ap has_float c.into_bare.ensures.value ∙ beside_whole (placed_of c.args.run).run c.into_bare.ensures.whole }

pub returns-clause-members : goal.returns-clause-members
returns-clause-members c =
    c.make_parts.ensures.members ∙ ap (λ d. without (codes "baselineGuid") (members_in d)) c.into_bare.ensures.value ∙ beside_members (placed_of c.args.run).run
