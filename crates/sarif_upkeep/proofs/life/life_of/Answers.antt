use Rattle.std.proofs.Common.{◌≡◌, ◌⊎◌, ◌++◌, [], Some, inl, inr, ap, ◌∙◌}
use Rattle.std.proofs.lemmas.Result.{IfErr-weaker, IfOk-weaker}
use Rattle.sarif_model.specs.FirstFault.{first}
use Rattle.sarif_model.specs.MergeFault.{out_of_memory}
use Rattle.sarif_upkeep.specs.Life.{files_faults, if_misfit, life_faults}
use Rattle.sarif_upkeep.proofs.life.life_of.Goals as goal

pub returns-clause-sound : goal.returns-clause-sound
returns-clause-sound c = λ m is.
    let upkeep = c.args.upkeep.now in
    IfOk-weaker c.make_life.result (λ _. files_faults m upkeep ≡ []) (λ _. life_faults m (Some upkeep) ≡ [])
    (λ _ none. ap (λ o. if_misfit o ++ files_faults m upkeep) is.fits ∙ none) (c.make_life.ensures.sound m is)

pub returns-clause-refused : goal.returns-clause-refused
returns-clause-refused c = λ m is.
    let upkeep = c.args.upkeep.now in
    let same = ap (λ o. first (if_misfit o ++ files_faults m upkeep)) is.fits in
    IfErr-weaker c.make_life.result (λ fault. (fault ≡ out_of_memory) ⊎ (first (files_faults m upkeep) ≡ Some fault))
    (λ fault. (fault ≡ out_of_memory) ⊎ (first (life_faults m (Some upkeep)) ≡ Some fault))
    (λ fault why. elim why [ inl out ↦ inl out | inr found ↦ inr (same ∙ found) ]) (c.make_life.ensures.refused m is)
