use Rattle.std.proofs.Common.{◌≡◌, ◌<◌, true, length, slice_set, sym, ap, ◌∙◌, subst, arith}
use Rattle.std.proofs.lemmas.List.{length-set}
use Rattle.serde_json.specs.Data.{object, put}
use Rattle.serde_json.specs.Find.{get}
use Rattle.json_parts.specs.Indexed.{data_of}
use Rattle.json_parts.specs.Internal.Walking.{put_all}
use Rattle.sarif_members.specs.Internal.Marked.{mark_of}
use Rattle.sarif_members.proofs.Marked.{AreAllMarked, one_more}
use Rattle.sarif_members.proofs.result_node.marks_of.Goals as goal

pub members-preserved : goal.members-preserved
members-preserved c =
    let l = c.members.invariant in
    let f = c.in-Some-take_member.ensures.value l.0 l.1 l.2 in
    let k = c.in-Some-take_member.name.now in
    let d = data_of c.in-Some-take_member._value in
    let done = l.3.0 in
    let marks = c.members.marks in
    let at : c.mark_of.result ≡ mark_of k = c.mark_of.ensures.value in
    let within : mark_of k < length marks = omega (arith, c.mark_of.ensures.within, at, l.3.3) in (
      l.0,
      f.0,
      f.3,
      (
        put k d done,
        l.3.1 ∙ ap (λ ms. object (put_all ms done)) f.1,
        subst (λ i. AreAllMarked (slice_set marks i true) (put k d done)) (sym at) (one_more marks k d done within l.3.2),
        length-set marks c.mark_of.result true ∙ l.3.3,
      ),
    )

pub returns : goal.returns
returns c name free =
    let l = c.members.invariant in
    let over = c.in_default-take_member.ensures.value l.0 l.1 l.2 in
    ap (get name) (l.3.1 ∙ ap (λ ms. object (put_all ms l.3.0)) over) ∙ l.3.2 name free
