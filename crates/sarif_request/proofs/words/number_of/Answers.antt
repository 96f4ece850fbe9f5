use Rattle.std.proofs.Common.{◌∙◌}
use Rattle.std.specs.Str.Parse.{ParsesUnsigned, ExplainsUnsignedError, HasUnsignedDigitsIfOk}
use Rattle.clap.specs.Words.{found_of}
use Rattle.clap.proofs.WalkLemmas.{one_text-rows}
use Rattle.sarif_request.proofs.Numbers.{reads}
use Rattle.sarif_request.proofs.words.number_of.Goals as goal

pub returns : goal.returns
returns c =
    let same = one_text-rows (found_of c.args.matches.now) c.args.id.now in
    reads _ (λ bs r. ParsesUnsigned 32 10 bs r × ExplainsUnsignedError 10 bs r × HasUnsignedDigitsIfOk bs r) _ c.get_one.result
    (λ t x h. h.0) (λ none. c.get_one.ensures.none (same ∙ none)) (λ t is. c.get_one.ensures.value t (same ∙ is))
