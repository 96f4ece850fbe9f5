use Rattle.std.proofs.Common.{◌≡◌, true, [], ◌∷◌, ◌++◌, sym, ap, ◌∙◌, subst}
use Rattle.serde_json.specs.Data.{object, put, string}
use Rattle.json_parts.specs.Indexed.{data_of}
use Rattle.json_parts.specs.Internal.Ordered.{AreMembersOrdered}
use Rattle.json_parts.specs.Internal.Walking.{put_all}
use Rattle.json_parts.proofs.Order.{ordered_put}
use Rattle.sarif_members.specs.Internal.Rising.{strings_of, is_past}
use Rattle.sarif_members.proofs.Rising.{a_string, put_last, told}
use Rattle.sarif_members.proofs.own_members.indexed.fingerprints.rising_pairs.Goals as goal

pub members-preserved : goal.members-preserved
members-preserved c =
    let l = c.members.invariant in
    let f = c.in-Some-take_member.ensures.value l.0 l.1 l.2 in
    let k = c.in-Some-take_member.name.now in
    let d = data_of c.in-Some-take_member.value in
    let t = c.in-Some-string_of.text.now in
    let pairs = c.members.pairs in
    let is : d ≡ string t = a_string d t c.in-Some-string_of.ensures in
    let past : is_past k pairs ≡ true = ap (is_past k) (sym c.as_slice.ensures) ∙ sym c.is_past.ensures ∙ c.if-not-is_past.false in
    let last : put k (string t) (strings_of pairs) ≡ strings_of (pairs ++ (k, t) ∷ []) = put_last k t pairs l.3 past in
    let new : c.push_pair.new.pairs ≡ pairs ++ (k, t) ∷ [] = c.in_ok-push_pair.ensures in (
      l.0,
      f.0,
      f.3,
      subst (λ ps. AreMembersOrdered (strings_of ps)) (sym new) (subst AreMembersOrdered last (ordered_put k (string t) (strings_of pairs) tt l.3)),
      l.4 ∙ ap (λ ms. object (put_all ms (strings_of pairs))) f.1 ∙ ap (λ x. object (put_all f.0 (put k x (strings_of pairs)))) is
          ∙ ap (λ ms. object (put_all f.0 ms)) last ∙ ap (λ ps. object (put_all f.0 (strings_of ps))) (sym new),
    )

pub returns : goal.returns
returns c =
    let l = c.members.invariant in
    let over = c.in_default-take_member.ensures.value l.0 l.1 l.2 in
    told (data_of c.args.node.now) c.members.pairs (l.4 ∙ ap (λ ms. object (put_all ms (strings_of c.members.pairs))) over)
