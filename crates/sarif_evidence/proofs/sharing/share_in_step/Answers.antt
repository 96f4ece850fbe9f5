use Rattle.std.proofs.Common.{rules, ◌≡◌, ◌==◌, ◌+◌, ◌&&◌, ◌||◌, Bool, None, true, false, not, drop, length, sym, ap, ◌∙◌}
use Rattle.sarif_evidence.specs.Evidence.{share_member}
use Rattle.sarif_evidence.specs.Internal.Rising.{begins_with, rises_from}
use Rattle.sarif_evidence.specs.Seen.{filled}
use Rattle.sarif_evidence.proofs.RisingLemmas.{rest_after, rises_after_one, shared_one}
use Rattle.sarif_evidence.proofs.sharing.share_in_step.Goals as goal

pub returns-then-is_first : goal.returns-then-is_first
returns-then-is_first c =
    let m = c.member-item.result in
    let all = c.args.members.now in
    let old = c.loop-member.rest.now in
    let first : (not (length m.1 == 0) && begins_with m (rest_after m old)) ≡ true = search rules in
    sym (ap (λ (b : Bool). b || share_member (filled (drop (c.loop-member.member-index + 1) all)) (filled (rest_after m old))) first)
    ∙ shared_one all old c.loop-member.member-index m _ c.member-item.is c.loop-member-test.true c.requires.members
    c.loop-member.invariant.rises c.loop-member.invariant.told

pub loop-member-preserved : goal.loop-member-preserved
loop-member-preserved c =
    let m = c.member-item.result in
    let all = c.args.members.now in
    let old = c.loop-member.rest.now in
    let now : c.rest_after-rest.result.now ≡ rest_after m old = search rules in
    let other : (not (length m.1 == 0) && begins_with m (rest_after m old)) ≡ false = search rules in
    record {
      told = ap (λ l. share_member (filled (drop (c.loop-member.member-index + 1) all)) (filled l)) now
          ∙ sym (ap (λ (b : Bool). b || share_member (filled (drop (c.loop-member.member-index + 1) all)) (filled (rest_after m old))) other)
          ∙ shared_one all old c.loop-member.member-index m _ c.member-item.is c.loop-member-test.true c.requires.members
          c.loop-member.invariant.rises c.loop-member.invariant.told;
      rises = ap (λ l. rises_from None l) now ∙ rises_after_one m old c.loop-member.invariant.rises;
    }
