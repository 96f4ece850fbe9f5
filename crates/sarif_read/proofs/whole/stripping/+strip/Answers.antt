use Rattle.std.proofs.Common.{rules, ◌≡◌, ◌+◌, ◌*◌, ◌≤◌, map, sym, ap, ◌∙◌, arith}
use Rattle.serde_json.specs.Data.{array, object, depth, members_depth}
use Rattle.serde_json.specs.View.{view, items_of, items_view, members_view}
use Rattle.serde_json.specs.declared.value.Value.{the_lemmas}
use Rattle.sarif_read.specs.Stripping.{stripped, stripped_items, stripped_members}
use Rattle.sarif_read.proofs.Stripped.{stripped_items_view, member_depth_at, stripped_from_retain}
use Rattle.sarif_read.proofs.whole.stripping.+strip.Goals as goal

pub strip_in_place-returns-in-Array : goal.strip_in_place-returns-in-Array
strip_in_place-returns-in-Array t c =
    let told : map view c.strip_items.new.items.items ≡ map (λ v. stripped (view v)) c.in-Array.items.items = search rules in
    let done : items_view c.strip_items.new.items.items ≡ stripped_items (items_view c.in-Array.items.items) = ap items_of told
    ∙ sym (stripped_items_view c.in-Array.items.items) in
    let seen : view c.args.value.now ≡ array (items_view c.in-Array.items.items) = search (rules, the_lemmas) in
    search (rules, the_lemmas, done, seen)

pub strip_in_place-returns-in-Object : goal.strip_in_place-returns-in-Object
strip_in_place-returns-in-Object t c =
    let done : members_view c.strip_members.new.members.entries ≡ stripped_members (members_view c.in-Object.members.entries) = search rules in
    let seen : view c.args.value.now ≡ object (members_view c.in-Object.members.entries) = search (rules, the_lemmas) in
    search (rules, the_lemmas, done, seen)

pub strip_members-retain-requires : goal.strip_members-retain-requires
strip_members-retain-requires t c = record {
  at = λ before after f' k v e folds.
      λ p q at_key at_value.
      let d : depth (view q.now) ≤ members_depth (members_view c.args.members.now.entries) = rw (at_value, e) (member_depth_at before k v after) in
      let h : 3 * members_depth (members_view c.args.members.now.entries) + 2 ≡ t = search rules in
      (omega (arith, d, h), tt);
}

pub strip_members-returns : goal.strip_members-returns
strip_members-returns t c = stripped_from_retain _ (λ f k v b w f' call. search rules) _ _ _ c.retain.ensures.filtered
