use Rattle.std.proofs.Common.{rules, ◌≡◌, true, false}
use Rattle.sarif_model.specs.WhiteSpace.{is_white_space}
use Rattle.sarif_evidence.proofs.PackedLemmas.{packed_kept, packed_gone}
use Rattle.sarif_evidence.proofs.seeing.packed.Goals as goal

pub loop-c-preserved-in-Continue-branch-2 : goal.loop-c-preserved-in-Continue-branch-2
loop-c-preserved-in-Continue-branch-2 c =
    let stays : is_white_space c.in-Some.c ≡ false = search rules in
    packed_kept _ _ _ _ _ c.in-Some.c stays c.in_ok-push.ensures.bytes c.in-Some.ensures.steps.0 c.loop-c.invariant

pub loop-c-preserved : goal.loop-c-preserved
loop-c-preserved c =
    let goes : is_white_space c.in-Some.c ≡ true = search rules in
    packed_gone _ _ _ _ c.in-Some.c goes c.in-Some.ensures.steps.0 c.loop-c.invariant
