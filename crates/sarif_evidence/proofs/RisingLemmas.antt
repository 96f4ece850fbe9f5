-- What two lists of members share, if both are in the order of their names.
use Rattle.std.proofs.Common.{◌≡◌, ℕ, ◌+◌, ◌<◌, zero, suc, Bool, true, false, cond, not, ◌&&◌, ◌||◌, ◌==◌, List, [], ◌∷◌, Option, Some, None, Ordering, bytes_eq, drop, get_or, length, refl, sym, ap, ◌∙◌, subst, arith}
use Rattle.std.proofs.Math.Seq.{drop-cons}
use Rattle.std.specs.List.{AllByRecursion, list_any}
use Rattle.std.specs.Ordering.{is_eq, is_lt, nat_cmp, ordering_reverse}
use Rattle.std.specs.declared.cmp.Ordering.TheVariants.{Less, Equal, Greater}
use Rattle.std.specs.Cmp.Lexicographic.{slice_cmp, nat_list_cmp_total, texts_ties}
use Rattle.std.proofs.lemmas.Bool.{and_parts, false≢true}
use Rattle.sarif_evidence.specs.Evidence.{share_member}
use Rattle.sarif_evidence.specs.Internal.Rising.{begins_with, from_name, is_below, rises_from}
use Rattle.sarif_evidence.specs.Seen.{filled}
use Rattle.sarif_evidence.proofs.EqualLemmas.{same_text}

abbrev Member : Type 0
Member = List ℕ × List ℕ

abbrev text_cmp : List ℕ → List ℕ → Ordering
text_cmp = slice_cmp nat_cmp

-- all these members have names after this one
abbrev AreAfter : List ℕ → List Member → Type 0
AreAfter name members = AllByRecursion (λ (x : Member). text_cmp name x.0 ≡ Less) members

less : (o : Ordering) → is_lt o ≡ true → o ≡ Less
less Less is = refl
less Equal is = absurd (false≢true is)
less Greater is = absurd (false≢true is)

after_before : (name between : List ℕ) (members : List Member) → text_cmp name between ≡ Less → AreAfter between members → AreAfter name members
after_before name between [] lt each = tt
after_before name between (x ∷ members) lt each =
    (nat_list_cmp_total.trans name between x.0 lt each.0, after_before name between members lt each.1)

rises_after : (name : List ℕ) (members : List Member) → rises_from (Some name) members ≡ true → AreAfter name members
rises_after name [] rise = tt
rises_after name (x ∷ members) rise =
    let both = and_parts (is_lt (text_cmp name x.0)) (rises_from (Some x.0) members) rise in
    let lt = less (text_cmp name x.0) both.0 in
    (lt, after_before name x.0 members lt (rises_after x.0 members both.1))

rises_alone : (before : Option (List ℕ)) (members : List Member) → rises_from before members ≡ true → rises_from None members ≡ true
rises_alone before [] rise = refl
rises_alone before (x ∷ members) rise = (and_parts (is_below before x.0) (rises_from (Some x.0) members) rise).1

rises_rest : (x : Member) (members : List Member) → rises_from None (x ∷ members) ≡ true → rises_from None members ≡ true
rises_rest x members rise = rises_alone (Some x.0) members rise

pub rises_drop : (i : ℕ) (members : List Member) → rises_from None members ≡ true → rises_from None (drop i members) ≡ true
rises_drop zero members rise = rise
rises_drop (suc i) [] rise = refl
rises_drop (suc i) (x ∷ members) rise = rises_drop i members (rises_rest x members rise)

pub rises_from_name : (name : List ℕ) (members : List Member) → rises_from None members ≡ true → rises_from None (from_name name members) ≡ true
rises_from_name name [] rise = refl
rises_from_name name (x ∷ members) rise = by_test (is_lt (text_cmp x.0 name)) (rises_from_name name members (rises_rest x members rise))
  where
    by_test : (b : Bool) → rises_from None (from_name name members) ≡ true → rises_from None (cond b (from_name name members) (x ∷ members)) ≡ true
    by_test true rest = rest
    by_test false rest = rise

-- names that differ
apart : (a b : List ℕ) → text_cmp a b ≡ Less → bytes_eq a b ≡ false
apart a b lt = texts_ties a b ∙ ap is_eq lt

apart_back : (a b : List ℕ) → text_cmp a b ≡ Less → bytes_eq b a ≡ false
apart_back a b lt = texts_ties b a ∙ ap is_eq (nat_list_cmp_total.antisymm b a ∙ ap ordering_reverse lt)

abbrev same_as : Member → Member → Bool
same_as member other = bytes_eq other.0 member.0 && bytes_eq other.1 member.1

-- whether this is one of the members
abbrev has : Member → List Member → Bool
has member others = list_any (same_as member) others

other_first : (o : Member) (os members : List Member) → AllByRecursion (λ (x : Member). text_cmp o.0 x.0 ≡ Less) members
    → share_member members (o ∷ os) ≡ share_member members os
other_first o os [] each = refl
other_first o os (x ∷ members) each =
    ap (λ (b : Bool). ((b && bytes_eq o.1 x.1) || has x os) || share_member members (o ∷ os)) (apart o.0 x.0 each.0)
    ∙ ap (λ (b : Bool). has x os || b) (other_first o os members each.1)

-- a member whose name is below all of them is none of these
filled_first : (o : Member) (os members : List Member) → AllByRecursion (λ (x : Member). text_cmp o.0 x.0 ≡ Less) members
    → share_member members (filled (o ∷ os)) ≡ share_member members (filled os)
filled_first o os members each = by_test (not (length o.1 == 0))
  where
    by_test : (b : Bool) → share_member members (cond b (o ∷ filled os) (filled os)) ≡ share_member members (filled os)
    by_test true = other_first o (filled os) members each
    by_test false = refl

after_filled : (name : List ℕ) (members : List Member) → AreAfter name members → AreAfter name (filled members)
after_filled name [] each = tt
after_filled name (x ∷ members) each = by_test (not (length x.1 == 0)) (after_filled name members each.1)
  where
    by_test : (b : Bool) → AreAfter name (filled members) → AreAfter name (cond b (x ∷ filled members) (filled members))
    by_test true rest = (each.0, rest)
    by_test false rest = rest

none_after : (m : Member) (others : List Member) → AreAfter m.0 others → has m others ≡ false
none_after m [] each = refl
none_after m (x ∷ others) each =
    ap (λ (b : Bool). (b && bytes_eq x.1 m.1) || has m others) (apart_back m.0 x.0 each.0) ∙ none_after m others each.1

-- only the first can be this member, if all names from it on are not below
only_first : (m o : Member) (os : List Member) → AreAfter o.0 os → is_lt (text_cmp o.0 m.0) ≡ false → has m (filled (o ∷ os)) ≡ begins_with m (o ∷ os)
only_first m o os each not_less = by_test (not (length o.1 == 0)) (none_after m (filled os) (after_filled m.0 os (by_order (text_cmp o.0 m.0) refl)))
  where
    by_order : (c : Ordering) → text_cmp o.0 m.0 ≡ c → AreAfter m.0 os
    by_order Less is = absurd (false≢true (sym not_less ∙ ap is_lt is))
    by_order Equal is =
        let same : o.0 ≡ m.0 = same_text o.0 m.0 (texts_ties o.0 m.0 ∙ ap is_eq is) in
        subst (λ (name : List ℕ). AreAfter name os) same each
    by_order Greater is =
        after_before m.0 o.0 os (nat_list_cmp_total.antisymm m.0 o.0 ∙ ap ordering_reverse is) each

    or_false : (b : Bool) → b || false ≡ b
    or_false true = refl
    or_false false = refl

    by_test : (b : Bool) → has m (filled os) ≡ false → has m (cond b (o ∷ filled os) (filled os)) ≡ b && same_as m o
    by_test true none = ap (λ (c : Bool). same_as m o || c) none ∙ or_false (same_as m o)
    by_test false none = none

-- one more member
shared_step : (m : Member) (ms rest : List Member) → rises_from (Some m.0) ms ≡ true → rises_from None rest ≡ true
    → share_member (m ∷ filled ms) (filled rest)
    ≡ begins_with m (from_name m.0 rest) || share_member (filled ms) (filled (from_name m.0 rest))
shared_step m ms [] members others = refl
shared_step m ms (o ∷ os) members others = by_test (is_lt (text_cmp o.0 m.0)) refl (shared_step m ms os members (rises_rest o os others))
  where
    by_test : (b : Bool) → is_lt (text_cmp o.0 m.0) ≡ b → share_member (m ∷ filled ms) (filled os) ≡ begins_with m (from_name m.0 os)
        || share_member (filled ms) (filled (from_name m.0 os)) → share_member (m ∷ filled ms) (filled (o ∷ os))
        ≡ begins_with m (cond b (from_name m.0 os) (o ∷ os)) || share_member (filled ms) (filled (cond b (from_name m.0 os) (o ∷ os)))
    by_test true is rest =
        let lt = less (text_cmp o.0 m.0) is in
        filled_first o os (m ∷ filled ms) (lt, after_before o.0 m.0 (filled ms) lt (after_filled m.0 ms (rises_after m.0 ms members)))
        ∙ rest
    by_test false is rest =
        ap (λ (b : Bool). b || share_member (filled ms) (filled (o ∷ os))) (only_first m o os (rises_after o.0 os others) is)

-- a filled member
pub shared_more : (all rest : List Member) (i : ℕ) (m : Member) (told : Bool) → m ≡ get_or all i m → i < length all
    → not (length m.1 == 0) ≡ true → rises_from None all ≡ true → rises_from None rest ≡ true
    → share_member (filled (drop i all)) (filled rest) ≡ told
    → begins_with m (from_name m.0 rest) || share_member (filled (drop (i + 1) all)) (filled (from_name m.0 rest)) ≡ told
shared_more all rest i m told here within is_filled members others so_far =
    let ms : List Member = drop (suc i) all in
    let next : i + 1 ≡ suc i = omega arith in
    let opened : drop i all ≡ m ∷ ms = drop-cons all i m within ∙ ap (λ (x : Member). x ∷ ms) (sym here) in
    let rising : rises_from None (m ∷ ms) ≡ true = ap (rises_from None) (sym opened) ∙ rises_drop i all members in
    ap (λ (n : ℕ). begins_with m (from_name m.0 rest) || share_member (filled (drop n all)) (filled (from_name m.0 rest))) next
    ∙ sym (shared_step m ms rest rising others)
    ∙ ap (λ (b : Bool). share_member (cond b (m ∷ filled ms) (filled ms)) (filled rest)) (sym is_filled)
    ∙ ap (λ (l : List Member). share_member (filled l) (filled rest)) (sym opened) ∙ so_far

-- a member that isn't filled
pub shared_less : (all rest : List Member) (i : ℕ) (m : Member) (told : Bool) → m ≡ get_or all i m → i < length all
    → not (length m.1 == 0) ≡ false → share_member (filled (drop i all)) (filled rest) ≡ told
    → share_member (filled (drop (i + 1) all)) (filled rest) ≡ told
shared_less all rest i m told here within is_filled so_far =
    let ms : List Member = drop (suc i) all in
    let next : i + 1 ≡ suc i = omega arith in
    let opened : drop i all ≡ m ∷ ms = drop-cons all i m within ∙ ap (λ (x : Member). x ∷ ms) (sym here) in
    ap (λ (n : ℕ). share_member (filled (drop n all)) (filled rest)) next
    ∙ ap (λ (b : Bool). share_member (cond b (m ∷ filled ms) (filled ms)) (filled rest)) (sym is_filled)
    ∙ ap (λ (l : List Member). share_member (filled l) (filled rest)) (sym opened) ∙ so_far

-- the rest after one member
abbrev pub rest_after : Member → List Member → List Member
rest_after m rest = cond (not (length m.1 == 0)) (from_name m.0 rest) rest

pub rises_after_one : (m : Member) (rest : List Member) → rises_from None rest ≡ true → rises_from None (rest_after m rest) ≡ true
rises_after_one m rest rise = by_test (not (length m.1 == 0))
  where
    by_test : (b : Bool) → rises_from None (cond b (from_name m.0 rest) rest) ≡ true
    by_test true = rises_from_name m.0 rest rise
    by_test false = rise

-- any member
pub shared_one : (all rest : List Member) (i : ℕ) (m : Member) (told : Bool) → m ≡ get_or all i m → i < length all
    → rises_from None all ≡ true → rises_from None rest ≡ true → share_member (filled (drop i all)) (filled rest) ≡ told
    → (not (length m.1 == 0) && begins_with m (rest_after m rest))
    || share_member (filled (drop (i + 1) all)) (filled (rest_after m rest)) ≡ told
shared_one all rest i m told here within members others so_far = by_test (not (length m.1 == 0)) refl
  where
    by_test : (b : Bool) → not (length m.1 == 0) ≡ b
        → (b && begins_with m (cond b (from_name m.0 rest) rest))
        || share_member (filled (drop (i + 1) all)) (filled (cond b (from_name m.0 rest) rest)) ≡ told
    by_test true is = shared_more all rest i m told here within is members others so_far
    by_test false is = shared_less all rest i m told here within is so_far
