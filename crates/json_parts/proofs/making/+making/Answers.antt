use Rattle.std.proofs.Common.{rules, ◌≡◌, true, false, Some, option_map, string_bytes, sym, ap, ◌∙◌}
use Rattle.serde_json.specs.Data.{object, item, put}
use Rattle.serde_json.specs.Find.{as_array, as_object}
use Rattle.serde_json.specs.View.{view, members_view}
use Rattle.serde_json.proofs.Views.{view-Object, members_view-insert_entry}
use Rattle.json_parts.specs.Indexed.{data_of}
use Rattle.json_parts.specs.Stripping.{stripped, stripped_items}
use Rattle.json_parts.specs.Internal.Walking.{put_all, is_left_out, kept_members}
use Rattle.json_parts.proofs.Kept.{inner_call_below, items_before, items_before_one, items_before_none, removed, view-removed, put_kept, put_left, object_made}
use Rattle.json_parts.proofs.Order.{ordered_put}
use Rattle.json_parts.proofs.making.+making.Goals as goal

pub make_array-make_value-requires : goal.make_array-make_value-requires
make_array-make_value-requires t c =
    let l = c.items.invariant in
    let f = c.in-Some-next_element.ensures.value l.0 l.1 l.2 in
    (inner_call_below _ _ _ _ l.3 f.2 (search rules), tt)

pub make_array-items-preserved : goal.make_array-items-preserved
make_array-items-preserved t c =
    let l = c.items.invariant in
    let f = c.in-Some-next_element.ensures.value l.0 l.1 l.2 in
    let made = c.items.made.items in
    let turn =
    ap (λ ds. items_before made (stripped_items ds)) f.1 ∙ ap (λ d. items_before made (item d (stripped_items f.0))) (sym c.in_ok-value.ensures)
    ∙ sym (items_before_one made c.in_ok-value.value (stripped_items f.0)) ∙ ap (λ vs. items_before vs (stripped_items f.0)) (sym c.in_ok-push.ensures.items) in
    (l.0, f.0, f.3, l.3, (l.4.0, l.4.1, l.4.2 ∙ turn))

pub make_array-returns : goal.make_array-returns
make_array-returns t c =
    let l = c.items.invariant in
    let made = c.items.made.items in
    let over = c.in_default-next_element.ensures.value l.0 l.1 l.2 in
    sym
    (ap (λ d. option_map stripped_items (as_array d)) l.4.1 ∙ ap Some (l.4.2 ∙ ap (λ ds. items_before made (stripped_items ds)) over ∙ items_before_none made))

pub make_object-members-preserved-then-leaves_out : goal.make_object-members-preserved-then-leaves_out
make_object-members-preserved-then-leaves_out t c =
    let l = c.members.invariant in
    let f = c.in-Some-next_member.ensures.value l.0 l.1 l.2 in
    let k = c.in-Some-next_member.name.now in
    let d = data_of c.in-Some-next_member.member in
    let done = l.4.0 in
    let left = option_map (λ s. s.now) c.args.left_out in
    let goes : is_left_out left k d ≡ true = sym c.if-leaves_out.ensures in
    let taken : members_view c.remove.new.self.entries ≡ removed k (members_view c.members.made.entries) =
    ap members_view c.remove.ensures.entries ∙ view-removed k c.members.made.entries in (
      l.0,
      f.0,
      f.3,
      l.3,
      (
        put k d done,
        ordered_put k d done c.in-Some-next_member.ensures.ordered l.4.1,
        l.4.2 ∙ ap (λ ms. object (put_all ms done)) f.1,
        taken ∙ ap (removed k) l.4.3 ∙ sym (put_left left k d done goes l.4.1),
      ),
    )

pub make_object-make_value-requires : goal.make_object-make_value-requires
make_object-make_value-requires t c =
    let l = c.members.invariant in
    let f = c.in-Some-next_member.ensures.value l.0 l.1 l.2 in
    (inner_call_below _ _ _ _ l.3 f.2 (search rules), tt)

pub make_object-members-preserved : goal.make_object-members-preserved
make_object-members-preserved t c =
    let l = c.members.invariant in
    let f = c.in-Some-next_member.ensures.value l.0 l.1 l.2 in
    let k = c.in-Some-next_member.name.now in
    let d = data_of c.in-Some-next_member.member in
    let done = l.4.0 in
    let left = option_map (λ s. s.now) c.args.left_out in
    let stays : is_left_out left k d ≡ false = sym c.if-leaves_out.ensures in
    let v = c.in_ok-value.value in
    let old = members_view c.members.made.entries in
    let copied : string_bytes c.in_ok-from_str.field-0 ≡ k = search rules in
    let inserted : members_view c.insert.new.self.entries ≡ put k (stripped d) old =
    ap members_view c.in_ok-insert.ensures.entries ∙ members_view-insert_entry c.members.made.entries c.in_ok-from_str.field-0 v
    ∙ ap (λ name. put name (view v) old) copied ∙ ap (λ x. put k x old) c.in_ok-value.ensures in (
      l.0,
      f.0,
      f.3,
      l.3,
      (
        put k d done,
        ordered_put k d done c.in-Some-next_member.ensures.ordered l.4.1,
        l.4.2 ∙ ap (λ ms. object (put_all ms done)) f.1,
        inserted ∙ ap (put k (stripped d)) l.4.3 ∙ sym (put_kept left k d done stays l.4.1),
      ),
    )

pub make_object-returns : goal.make_object-returns
make_object-returns t c =
    let l = c.members.invariant in
    let over = c.in_default-next_member.ensures.value l.0 l.1 l.2 in
    let left = option_map (λ s. s.now) c.args.left_out in
    sym
    (ap (λ d. option_map (kept_members left) (as_object d)) (l.4.2 ∙ ap (λ ms. object (put_all ms l.4.0)) over) ∙ ap Some (sym l.4.3))

pub make_value-returns-in-Some-2 : goal.make_value-returns-in-Some-2
make_value-returns-in-Some-2 t c =
    let told = ap (option_map (λ m. members_view m.entries)) (sym c.in-Some-2.is) ∙ c.in_ok-members.ensures in
    view-Object c.in-Some-2.members ∙ object_made (data_of c.args.node.now) (members_view c.in-Some-2.members.entries) told
