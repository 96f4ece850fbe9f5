-- Members with rising names are determined by the value at each name.
use Rattle.std.proofs.Common.{◌≡◌, ℕ, List, Some, None, refl, sym, ap, ◌∙◌}
use Rattle.std.specs.Ordering.{nat_cmp, match_ordering, is_eq, ordering_reverse}
use Rattle.std.specs.declared.cmp.Ordering.{Ordering}
use Rattle.std.specs.declared.cmp.Ordering.TheVariants.{Less, Equal, Greater}
use Rattle.std.proofs.lemmas.Cmp.{nat_list_cmp_total}
use Rattle.std.specs.Cmp.{Equal-is}
use Rattle.std.specs.Cmp.Lexicographic.{slice_cmp}
use Rattle.std.proofs.lemmas.Map.Text.{is_eq-slice_cmp}
use Rattle.std.proofs.lemmas.Slice.Eq.{bytes_eq-Decides}
use Rattle.serde_json.specs.Data.{Data, Members, no_members, member}
use Rattle.serde_json.specs.Find.{get_member}
use Rattle.json_parts.specs.Internal.Ordered.{IsBelow, AreMembersOrdered}
use Rattle.json_parts.proofs.Order.{below_all}
use Rattle.json_parts.proofs.Stripped.{absent_below}

some≢none : {A : Type 0} {x : A} → Some x ≡ None → ⊥
some≢none e = cc

-- the first is found
here : (k : List ℕ) (d : Data) (ms : Members) → get_member k (member k d ms) ≡ Some d
here k d ms =
    let same : slice_cmp nat_cmp k k ≡ Equal = (Equal-is (slice_cmp nat_cmp k k)).0 (is_eq-slice_cmp k k ∙ (bytes_eq-Decides k k).1 refl) in rw same refl

-- names of the rest aren't the first
later : (o : Ordering) (q k : List ℕ) (d e : Data) (ms ns : Members)
    → slice_cmp nat_cmp q k ≡ o → IsBelow k ms → IsBelow k ns
    → match_ordering o (get_member q ms) (Some d) (get_member q ms) ≡ match_ordering o (get_member q ns) (Some e) (get_member q ns)
    → get_member q ms ≡ get_member q ns
later Less q k d e ms ns is below under same = same
later Equal q k d e ms ns is below under same =
    let name : q ≡ k = (bytes_eq-Decides q k).0 (sym (is_eq-slice_cmp q k) ∙ ap is_eq is) in
    rw (name, absent_below k ms below, absent_below k ns under) refl
later Greater q k d e ms ns is below under same = same

first : (o : Ordering) (k l : List ℕ) (d e : Data) (ms ns : Members)
    → slice_cmp nat_cmp k l ≡ o → slice_cmp nat_cmp l k ≡ ordering_reverse o → IsBelow k ms → IsBelow l ns
    → ((q : List ℕ) → get_member q (member k d ms) ≡ get_member q (member l e ns))
    → (k ≡ l) × (d ≡ e)
first Less k l d e ms ns is back below under same =
    absurd (some≢none (sym (here k d ms) ∙ same k ∙ absent_below k (member l e ns) (is, below_all k l ns is under)))
first Equal k l d e ms ns is back below under same =
    let name : k ≡ l = (bytes_eq-Decides k l).0 (sym (is_eq-slice_cmp k l) ∙ ap is_eq is) in
    let found : Some d ≡ Some e = sym (here k d ms) ∙ same k ∙ rw is refl in
    (name, (cc))
first Greater k l d e ms ns is back below under same =
    absurd (some≢none (sym (here l e ns) ∙ sym (same l) ∙ absent_below l (member k d ms) (back, below_all l k ms back below)))

pub same_members : (ms ns : Members) → AreMembersOrdered ms → AreMembersOrdered ns → ((q : List ℕ) → get_member q ms ≡ get_member q ns) → ms ≡ ns
same_members no_members no_members ordered rising same = refl
same_members no_members (member l e ns) ordered rising same = absurd (some≢none (sym (here l e ns) ∙ sym (same l)))
same_members (member k d ms) no_members ordered rising same = absurd (some≢none (sym (here k d ms) ∙ same k))
same_members (member k d ms) (member l e ns) ordered rising same =
    let both = first (slice_cmp nat_cmp k l) k l d e ms ns refl (nat_list_cmp_total.antisymm l k) ordered.0 rising.0 same in
    let under : IsBelow k ns = rw both.0 rising.0 in
    let again : (q : List ℕ) → get_member q (member k d ms) ≡ get_member q (member k e ns) = λ q. same q
    ∙ ap (λ name. get_member q (member name e ns)) (sym both.0) in
    let rest = same_members ms ns ordered.2 rising.2 (λ q. later (slice_cmp nat_cmp q k) q k d e ms ns refl ordered.0 under (again q)) in
    rw (both.0, both.1, rest) refl
