use Rattle.std.proofs.Common.{List, None, slice_index_or, sym, ap, ◌∙◌}
use Rattle.sarif_match.specs.declared.tier.Tier.{Tier}
use Rattle.sarif_match.specs.Partners.{is_taken, partners_after}
use Rattle.sarif_match_laws.proofs.NoneLeft.{no_common_key}
use Rattle.sarif_match_laws.proofs.laws.nothing_is_left_that_could_be_matched.Goals as goal

pub returns : goal.returns
returns c = λ current baseline before after tier i j key in_order none no_mark current_key baseline_key.
    no_common_key current baseline before after tier i j key
    (ap (λ (ts : List Tier). slice_index_or (partners_after current baseline ts) i None) (sym in_order) ∙ none)
    (ap (λ (ts : List Tier). is_taken (partners_after current baseline ts) j) (sym in_order) ∙ no_mark)
    current_key baseline_key
