-- Members that are added in order, and how deep an outline nests.
use Rattle.std.proofs.Common.{◌≡◌, ℕ, suc, List, Greater, max, refl, ap, ap₂, ◌∙◌, nat_cmp}
use Rattle.std.specs.Prelude.{⊤}
use Rattle.std.proofs.lemmas.Cmp.{nat_list_cmp_total}
use Rattle.std.specs.Cmp.Lexicographic.{slice_cmp}
use Rattle.std.specs.Ordering.{ordering_reverse}
use Rattle.json.specs.Tree as tree
use Rattle.serde_json.specs.Data.{Data, null, boolean, number, string, array, object, Items, no_items, item, Members, no_members, member, put, depth, items_depth, members_depth}
use Rattle.serde_json.specs.Written.{outline, items_outline, members_outline}
use Rattle.json_parts.specs.Internal.Ordered.{IsBelow}

abbrev pub joined : Members → Members → Members
joined no_members ms = ms
joined (member k d more) ms = member k d (joined more ms)

-- these names are below those
abbrev pub AreBefore : Members → Members → Type 0
AreBefore no_members ms = ⊤
AreBefore (member k d more) ms = IsBelow k ms × AreBefore more ms

pub put_end : (k : List ℕ) (d : Data) (acc ms : Members) → AreBefore acc (member k d ms) → put k d acc ≡ joined acc (member k d no_members)
put_end k d no_members ms before = refl
put_end k d (member l e acc) ms before =
    let above : slice_cmp nat_cmp k l ≡ Greater = nat_list_cmp_total.antisymm k l ∙ ap ordering_reverse before.0.0 in
    rw above (ap (member l e) (put_end k d acc ms before.1))

pub still_before : (k : List ℕ) (d : Data) (acc ms : Members) → AreBefore acc (member k d ms) → IsBelow k ms → AreBefore (joined acc (member k d no_members)) ms
still_before k d no_members ms before below = (below, tt)
still_before k d (member l e acc) ms before below = (before.0.1, still_before k d acc ms before.1 below)

pub join_next : (k : List ℕ) (d : Data) (acc ms : Members) → joined (joined acc (member k d no_members)) ms ≡ joined acc (member k d ms)
join_next k d no_members ms = refl
join_next k d (member l e acc) ms = ap (member l e) (join_next k d acc ms)

pub join_none : (acc : Members) → acc ≡ joined acc no_members
join_none no_members = refl
join_none (member l e acc) = ap (member l e) (join_none acc)

-- ---- how deep it nests

mutual
  pub outline_depth : (d : Data) → tree.depth (outline d) ≡ depth d
  outline_depth null = refl
  outline_depth (boolean b) = refl
  outline_depth (number n) = refl
  outline_depth (string s) = refl
  outline_depth (array ds) = ap suc (items_outline_depth ds)
  outline_depth (object ms) = ap suc (members_outline_depth ms)

  items_outline_depth : (ds : Items) → tree.items_depth (items_outline ds) ≡ items_depth ds
  items_outline_depth no_items = refl
  items_outline_depth (item d ds) = ap₂ max (outline_depth d) (items_outline_depth ds)

  members_outline_depth : (ms : Members) → tree.members_depth (members_outline ms) ≡ members_depth ms
  members_outline_depth no_members = refl
  members_outline_depth (member k d ms) = ap₂ max (outline_depth d) (members_outline_depth ms)
