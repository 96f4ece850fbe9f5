use Rattle.std.proofs.Common.{rules, ◌≡◌, ℕ, Bool, false, List, Option, length, reverse, slice_index_or, sym, ap, ◌∙◌}
use Rattle.sarif_match.specs.Partners.{is_taken, turned}
use Rattle.sarif_match.proofs.TurnedLemmas.{marks_turned}
use Rattle.sarif_match.proofs.matching.Matching.turned.Goals as goal

pub invariant_of-result : goal.invariant_of-result
invariant_of-result c = λ j.
    let progress = c.args.progress.now in
    let marks : c.in_ok-taken.taken.items ≡ reverse progress.taken.items = search rules in
    let partners : c.in_ok-partners.partners.items ≡ turned (length progress.taken.items) progress.partners.items = search rules in
    ap (λ (l : List Bool). slice_index_or l j false) marks
    ∙ marks_turned progress.partners.items progress.taken.items c.requires.below c.requires.sound.taken j
    ∙ sym (ap (λ (l : List (Option ℕ)). is_taken l j) partners)
