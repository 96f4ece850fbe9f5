use Rattle.std.proofs.Common.{false, length, sym, ap, ◌∙◌}
use Rattle.std.proofs.lemmas.List.{length-map}
use Rattle.sarif_change.specs.declared.spots.Scope.TheVariants.{Lines, Files}
use Rattle.sarif_deciding.specs.Merge.{matched_of}
use Rattle.sarif_deciding.proofs.Lengths.{current_rated_long, each_long, inside_long}
use Rattle.sarif_deciding.proofs.current.see_current.Goals as goal

pub see_all-requires-clause-lines : goal.see_all-requires-clause-lines
see_all-requires-clause-lines c =
    let m = matched_of c.args.merge.now in
    let rated =
    sym (length-map c.in_ok-ratings.ratings.items (λ r. r.now)) ∙ ap length c.in_ok-ratings.ensures ∙ ap length c.requires.looked.1.ratings
    ∙ current_rated_long c.requires.looked.0 m c.requires.current.drafts in
    ap length (c.deref-2.ensures.value ∙ c.requires.looked.1.in_lines) ∙ inside_long c.requires.looked.0 m c.requires.current.drafts Lines
    ∙ sym rated ∙ sym (ap length c.deref.ensures.value)

pub see_all-requires-clause-files : goal.see_all-requires-clause-files
see_all-requires-clause-files c =
    let m = matched_of c.args.merge.now in
    let rated =
    sym (length-map c.in_ok-ratings.ratings.items (λ r. r.now)) ∙ ap length c.in_ok-ratings.ensures ∙ ap length c.requires.looked.1.ratings
    ∙ current_rated_long c.requires.looked.0 m c.requires.current.drafts in
    ap length (c.deref-3.ensures.value ∙ c.requires.looked.1.in_files) ∙ inside_long c.requires.looked.0 m c.requires.current.drafts Files
    ∙ sym rated ∙ sym (ap length c.deref.ensures.value)

pub see_all-requires-clause-gone : goal.see_all-requires-clause-gone
see_all-requires-clause-gone c =
    let m = matched_of c.args.merge.now in
    let rated =
    sym (length-map c.in_ok-ratings.ratings.items (λ r. r.now)) ∙ ap length c.in_ok-ratings.ensures ∙ ap length c.requires.looked.1.ratings
    ∙ current_rated_long c.requires.looked.0 m c.requires.current.drafts in
    ap length (c.deref-4.ensures.value ∙ c.in_ok-gone.ensures) ∙ each_long false m.drafts ∙ sym rated ∙ sym (ap length c.deref.ensures.value)
