-- The members that are kept, as a map that is filled one by one.
use Rattle.std.proofs.Common.{◌≡◌, ℕ, suc, ◌+◌, ◌*◌, ◌≤◌, ◌<◌, List, [], ◌∷◌, ◌++◌, Option, Some, None, option_map, Bool, true, false, cond, ◌||◌, if◌then◌else◌, bytes_eq, Ordering, Less, Equal, Greater, is_eq, string_bytes, refl, sym, ap, ◌∙◌, subst, arith}
use Rattle.std.proofs.lemmas.Map.Text.{is_eq-slice_cmp}
use Rattle.std.proofs.lemmas.Slice.Eq.{bytes_eq-Decides}
use Rattle.std.specs.BTreeMap.{is_at}
use Rattle.std.specs.Cmp.Lexicographic.{slice_cmp}
use Rattle.std.specs.Map.{remove_entry}
use Rattle.std.specs.Ordering.{nat_cmp, match_ordering}
use Rattle.serde_json.specs.Data.{Data, null, boolean, number, string, array, object, Items, no_items, item, Members, no_members, member, put}
use Rattle.serde_json.specs.Find.{as_object}
use Rattle.serde_json.specs.View.{view, items_view, members_view}
use Rattle.serde_json.specs.declared.value.Value.{Value}
use Rattle.serde_json.proofs.Views.{Entry}
use Rattle.json_parts.specs.Internal.Ordered.{IsBelow, AreMembersOrdered}
use Rattle.json_parts.specs.Stripping.{is_fractional, stripped, stripped_members}
use Rattle.json_parts.specs.Internal.Walking.{is_left_out, kept_members}
use Rattle.json_parts.specs.Without.{without, without_member}
use Rattle.json_parts.proofs.Order.{below_all}
use Rattle.json_parts.proofs.Readings.{not_found, Some_inj}

abbrev cmp : List ℕ → List ℕ → Ordering
cmp = slice_cmp nat_cmp

-- without the first member of that name
abbrev pub removed : List ℕ → Members → Members
removed k no_members = no_members
removed k (member l e ms) = cond (is_eq (cmp k l)) ms (member l e (removed k ms))

view-cond : (b : Bool) (xs ys : List Entry) → members_view (cond b xs ys) ≡ cond b (members_view xs) (members_view ys)
view-cond true xs ys = refl
view-cond false xs ys = refl

pub view-removed : (k : List ℕ) (es : List Entry)
    → members_view (remove_entry (is_at (λ l. slice_cmp nat_cmp k (string_bytes l))) es) ≡ removed k (members_view es)
view-removed k [] = refl
view-removed k (e ∷ es) =
    view-cond (is_eq (cmp k (string_bytes e.0))) es (e ∷ remove_entry (is_at (λ l. slice_cmp nat_cmp k (string_bytes l))) es)
    ∙ ap (λ ms. cond (is_eq (cmp k (string_bytes e.0))) (members_view es) (member (string_bytes e.0) (view e.1) ms)) (view-removed k es)

removed_above : (k : List ℕ) (ms : Members) → IsBelow k ms → removed k ms ≡ ms
removed_above k no_members h = refl
removed_above k (member l e ms) h = rw h.0 (ap (member l e) (removed_above k ms h.1))

-- what is inserted below all names comes first
pub put_below : (k : List ℕ) (d : Data) (ms : Members) → IsBelow k ms → put k d ms ≡ member k d ms
put_below k d no_members h = refl
put_below k d (member l e ms) h = rw h.0

module _ (name : Option (List ℕ)) where
  abbrev kept_one : Bool → List ℕ → Data → Members → Members
  kept_one b k d ms = if b then ms else member k (stripped d) ms

  below_one : (b : Bool) (k l : List ℕ) (e : Data) (ms : Members) → cmp k l ≡ Less → IsBelow k ms → IsBelow k (kept_one b l e ms)
  below_one true k l e ms h r = r
  below_one false k l e ms h r = (h, r)

  below_kept : (k : List ℕ) (ms : Members) → IsBelow k ms → IsBelow k (kept_members name ms)
  below_kept k no_members h = tt
  below_kept k (member l e ms) h = below_one (is_left_out name l e) k l e (kept_members name ms) h.0 (below_kept k ms h.1)

  -- a member that is put and kept
  equal_kept : (b : Bool) (k l : List ℕ) (d e : Data) (ms : Members) → cmp k l ≡ Equal → k ≡ l → IsBelow l ms
      → member l (stripped d) ms ≡ put k (stripped d) (kept_one b l e ms)
  equal_kept true k l d e ms is same r = ap (λ x. member x (stripped d) ms) (sym same)
      ∙ sym (put_below k (stripped d) ms (subst (λ x. IsBelow x ms) (sym same) r))
  equal_kept false k l d e ms is same r = rw is

  greater_kept : (b : Bool) (k l : List ℕ) (d e : Data) (ms : Members) → cmp k l ≡ Greater
      → kept_one b l e (put k (stripped d) ms) ≡ put k (stripped d) (kept_one b l e ms)
  greater_kept true k l d e ms is = refl
  greater_kept false k l d e ms is = rw is

  put_kept_at : (o : Ordering) (k l : List ℕ) (d e : Data) (ms : Members) → cmp k l ≡ o → is_left_out name k d ≡ false → AreMembersOrdered (member l e ms)
      → kept_members name (put k d ms) ≡ put k (stripped d) (kept_members name ms)
      → kept_members name (match_ordering o (member k d (member l e ms)) (member l d ms) (member l e (put k d ms)))
      ≡ put k (stripped d) (kept_members name (member l e ms))
  put_kept_at Less k l d e ms is stays h again =
      ap (λ b. kept_one b k d (kept_members name (member l e ms))) stays
      ∙ sym (put_below k (stripped d) _ (below_kept k (member l e ms) (is, below_all k l ms is h.0)))
  put_kept_at Equal k l d e ms is stays h again =
      let same : k ≡ l = (bytes_eq-Decides k l).0 (sym (is_eq-slice_cmp k l) ∙ ap is_eq is) in
      ap (λ x. kept_one (is_left_out name x d) l d (kept_members name ms)) (sym same) ∙ ap (λ b. kept_one b l d (kept_members name ms)) stays
      ∙ equal_kept (is_left_out name l e) k l d e (kept_members name ms) is same (below_kept l ms h.0)
  put_kept_at Greater k l d e ms is stays h again = ap (kept_one (is_left_out name l e) l e) again
      ∙ greater_kept (is_left_out name l e) k l d e (kept_members name ms) is

  pub put_kept : (k : List ℕ) (d : Data) (ms : Members) → is_left_out name k d ≡ false → AreMembersOrdered ms
      → kept_members name (put k d ms) ≡ put k (stripped d) (kept_members name ms)
  put_kept k d no_members stays h = ap (λ b. kept_one b k d no_members) stays
  put_kept k d (member l e ms) stays h = put_kept_at _ k l d e ms refl stays h (put_kept k d ms stays h.2)

  -- a member that is put and left out
  equal_left : (b : Bool) (k l : List ℕ) (e : Data) (ms : Members) → cmp k l ≡ Equal → k ≡ l → IsBelow l ms → ms ≡ removed k (kept_one b l e ms)
  equal_left true k l e ms is same r = sym (removed_above k ms (subst (λ x. IsBelow x ms) (sym same) r))
  equal_left false k l e ms is same r = rw is

  greater_left : (b : Bool) (k l : List ℕ) (e : Data) (ms : Members) → cmp k l ≡ Greater → kept_one b l e (removed k ms) ≡ removed k (kept_one b l e ms)
  greater_left true k l e ms is = refl
  greater_left false k l e ms is = rw is

  put_left_at : (o : Ordering) (k l : List ℕ) (d e : Data) (ms : Members) → cmp k l ≡ o → is_left_out name k d ≡ true → AreMembersOrdered (member l e ms)
      → kept_members name (put k d ms) ≡ removed k (kept_members name ms)
      → kept_members name (match_ordering o (member k d (member l e ms)) (member l d ms) (member l e (put k d ms)))
      ≡ removed k (kept_members name (member l e ms))
  put_left_at Less k l d e ms is goes h again =
      ap (λ b. kept_one b k d (kept_members name (member l e ms))) goes ∙ sym (removed_above k _ (below_kept k (member l e ms) (is, below_all k l ms is h.0)))
  put_left_at Equal k l d e ms is goes h again =
      let same : k ≡ l = (bytes_eq-Decides k l).0 (sym (is_eq-slice_cmp k l) ∙ ap is_eq is) in
      ap (λ x. kept_one (is_left_out name x d) l d (kept_members name ms)) (sym same) ∙ ap (λ b. kept_one b l d (kept_members name ms)) goes
      ∙ equal_left (is_left_out name l e) k l e (kept_members name ms) is same (below_kept l ms h.0)
  put_left_at Greater k l d e ms is goes h again = ap (kept_one (is_left_out name l e) l e) again
      ∙ greater_left (is_left_out name l e) k l e (kept_members name ms) is

  pub put_left : (k : List ℕ) (d : Data) (ms : Members) → is_left_out name k d ≡ true → AreMembersOrdered ms
      → kept_members name (put k d ms) ≡ removed k (kept_members name ms)
  put_left k d no_members goes h = ap (λ b. kept_one b k d no_members) goes
  put_left k d (member l e ms) goes h = put_left_at _ k l d e ms refl goes h (put_left k d ms goes h.2)

pub kept-stripped : (ms : Members) → kept_members None ms ≡ stripped_members ms
kept-stripped no_members = refl
kept-stripped (member k d ms) = ap (λ x. if is_fractional d then x else member k (stripped d) x) (kept-stripped ms)

without_one : (b : Bool) (name k : List ℕ) (d : Data) (ms rest : Members) → kept_members (Some name) ms ≡ stripped_members rest
    → (if (b || is_fractional d) then kept_members (Some name) ms else member k (stripped d) (kept_members (Some name) ms))
    ≡ stripped_members (if b then rest else member k d rest)
without_one true name k d ms rest e = e
without_one false name k d ms rest e = ap (λ x. if is_fractional d then x else member k (stripped d) x) e

pub kept-without : (name : List ℕ) (ms : Members) → kept_members (Some name) ms ≡ stripped_members (without name ms)
kept-without name no_members = refl
kept-without name (member k d ms) = without_one (bytes_eq name k) name k d ms (without name ms) (kept-without name ms)

-- ---- elements that were made, before the others

abbrev pub items_before : List Value → Items → Items
items_before [] rest = rest
items_before (v ∷ vs) rest = item (view v) (items_before vs rest)

pub items_before_one : (vs : List Value) (v : Value) (rest : Items) → items_before (vs ++ v ∷ []) rest ≡ items_before vs (item (view v) rest)
items_before_one [] v rest = refl
items_before_one (w ∷ vs) v rest = ap (item (view w)) (items_before_one vs v rest)

pub items_before_none : (vs : List Value) → items_before vs no_items ≡ items_view vs
items_before_none [] = refl
items_before_none (v ∷ vs) = ap (item (view v)) (items_before_none vs)

-- ---- calls for what is in a value

-- the call for the value of an element or of a member is below the call for what has it
pub inner_call_below : (n inner outer bound : ℕ) → outer ≡ suc n → inner ≤ n → 2 * outer ≡ bound → 2 * inner + 1 < bound
inner_call_below n inner outer bound deeper within is = omega (arith, deeper, within, is)

-- ---- an object that was made

pub object_made : (d : Data) (ms : Members) → Some ms ≡ option_map (kept_members None) (as_object d) → object ms ≡ stripped d
object_made null ms e = not_found ms (sym e)
object_made (boolean b) ms e = not_found ms (sym e)
object_made (number n) ms e = not_found ms (sym e)
object_made (string s) ms e = not_found ms (sym e)
object_made (array ds) ms e = not_found ms (sym e)
object_made (object ns) ms e = ap object (Some_inj _ _ e ∙ kept-stripped ns)

pub object_made_without : (name : List ℕ) (d : Data) (ms : Members) → Some ms ≡ option_map (kept_members (Some name)) (as_object d)
    → object ms ≡ stripped (without_member name d)
object_made_without name null ms e = not_found ms (sym e)
object_made_without name (boolean b) ms e = not_found ms (sym e)
object_made_without name (number n) ms e = not_found ms (sym e)
object_made_without name (string s) ms e = not_found ms (sym e)
object_made_without name (array ds) ms e = not_found ms (sym e)
object_made_without name (object ns) ms e = ap object (Some_inj _ _ e ∙ kept-without name ns)
