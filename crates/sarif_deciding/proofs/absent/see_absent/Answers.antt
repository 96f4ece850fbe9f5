use Rattle.std.proofs.Common.{false, length, sym, ap, ◌∙◌}
use Rattle.std.proofs.lemmas.List.{length-map}
use Rattle.sarif_deciding.proofs.Lengths.{absent_rated_long, each_long, gone_long}
use Rattle.sarif_deciding.proofs.absent.see_absent.Goals as goal

pub see_all-requires-clause-lines : goal.see_all-requires-clause-lines
see_all-requires-clause-lines c =
    let left = c.args.merge.now.before.left.now in
    let rated =
    sym (length-map c.in_ok-ratings.ratings.items (λ r. r.now)) ∙ ap length c.in_ok-ratings.ensures ∙ ap length c.requires.looked.1.ratings
    ∙ absent_rated_long c.requires.looked.0 c.args.merge.now c.requires.left in
    ap length (c.deref-2.ensures.value ∙ c.in_ok-outside.ensures) ∙ each_long false left ∙ sym rated ∙ sym (ap length c.deref.ensures.value)

pub see_all-requires-clause-files : goal.see_all-requires-clause-files
see_all-requires-clause-files c =
    let left = c.args.merge.now.before.left.now in
    let rated =
    sym (length-map c.in_ok-ratings.ratings.items (λ r. r.now)) ∙ ap length c.in_ok-ratings.ensures ∙ ap length c.requires.looked.1.ratings
    ∙ absent_rated_long c.requires.looked.0 c.args.merge.now c.requires.left in
    ap length (c.deref-3.ensures.value ∙ c.in_ok-outside.ensures) ∙ each_long false left ∙ sym rated ∙ sym (ap length c.deref.ensures.value)

pub see_all-requires-clause-gone : goal.see_all-requires-clause-gone
see_all-requires-clause-gone c =
    let rated =
    sym (length-map c.in_ok-ratings.ratings.items (λ r. r.now)) ∙ ap length c.in_ok-ratings.ensures ∙ ap length c.requires.looked.1.ratings
    ∙ absent_rated_long c.requires.looked.0 c.args.merge.now c.requires.left in
    ap length (c.deref-4.ensures.value ∙ c.requires.looked.1.gone) ∙ gone_long c.requires.looked.0 c.args.merge.now c.requires.left ∙ sym rated
    ∙ sym (ap length c.deref.ensures.value)
