use Rattle.std.proofs.Common.{◌≡◌, [], sym, ◌∙◌, rules}
use Rattle.sarif_entries.proofs.JustTexts.{at_end}
use Rattle.sarif_entries.proofs.key.are_just.Goals as goal

pub returns : goal.returns
returns c =
    let none : c.loop-name.name-iterator ≡ [] = search rules in
    let told = rw none at c.loop-name.invariant.told in
    sym (at_end c.args.texts.now c.loop-name.at c.loop-name.invariant.within) ∙ told
