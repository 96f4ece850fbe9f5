-- Laws of stripping and of leaving a member out.
use Rattle.std.proofs.Common.{◌≡◌, ℕ, List, Option, Some, None, option_and_then, Bool, true, false, if◌then◌else◌, bytes_eq, true≢false, Ordering, Less, Equal, Greater, is_eq, refl, sym, ap, ◌∙◌, subst}
use Rattle.std.proofs.lemmas.Map.Text.{is_eq-slice_cmp}
use Rattle.std.proofs.lemmas.Slice.Eq.{bytes_eq-Decides}
use Rattle.std.specs.Cmp.Lexicographic.{slice_cmp}
use Rattle.std.specs.Ordering.{nat_cmp, match_ordering}
use Rattle.serde_json.specs.Data.{Data, null, boolean, number, string, array, object, Members, no_members, member}
use Rattle.serde_json.specs.Find.{get, get_member}
use Rattle.json_parts.specs.Internal.Ordered.{IsBelow, IsOrdered, AreMembersOrdered}
use Rattle.json_parts.specs.Stripping.{is_fractional, stripped, stripped_members}
use Rattle.json_parts.specs.Without.{without, without_member}
use Rattle.json_parts.proofs.Readings.{not_found, Some_inj}

abbrev cmp : List ℕ → List ℕ → Ordering
cmp = slice_cmp nat_cmp

-- what is left of a member's value after stripping
abbrev pub unless_fractional : Data → Option Data
unless_fractional d = if is_fractional d then None else Some (stripped d)

-- below all names, there is none
pub absent_below : (k : List ℕ) (ms : Members) → IsBelow k ms → get_member k ms ≡ None
absent_below k no_members h = refl
absent_below k (member l e ms) h = rw h.0 (absent_below k ms h.1)

skips_or_finds : (o : Ordering) (b : Bool) (k l : List ℕ) (d : Data) (ms : Members) → cmp k l ≡ o → is_fractional d ≡ b
    → (is_eq o ≡ true → get_member k ms ≡ None) → get_member k (stripped_members ms) ≡ option_and_then unless_fractional (get_member k ms)
    → get_member k (if b then stripped_members ms else member l (stripped d) (stripped_members ms))
    ≡ option_and_then unless_fractional (match_ordering o (get_member k ms) (Some d) (get_member k ms))
skips_or_finds Less true k l d ms is f only again = again
skips_or_finds Equal true k l d ms is f only again = again ∙ ap (option_and_then unless_fractional) (only refl) ∙ rw f
skips_or_finds Greater true k l d ms is f only again = again
skips_or_finds Less false k l d ms is f only again = rw is again
skips_or_finds Equal false k l d ms is f only again = rw (is, f)
skips_or_finds Greater false k l d ms is f only again = rw is again

same_name : (k l : List ℕ) (o : Ordering) → cmp k l ≡ o → is_eq o ≡ true → l ≡ k
same_name k l o is e = sym ((bytes_eq-Decides k l).0 (sym (is_eq-slice_cmp k l) ∙ ap is_eq is ∙ e))

get_member-stripped : (k : List ℕ) (ms : Members) → AreMembersOrdered ms
    → get_member k (stripped_members ms) ≡ option_and_then unless_fractional (get_member k ms)
get_member-stripped k no_members h = refl
get_member-stripped k (member l d ms) h =
    skips_or_finds (cmp k l) (is_fractional d) k l d ms refl refl
    (λ e. absent_below k ms (subst (λ x. IsBelow x ms) (same_name k l _ refl e) h.0)) (get_member-stripped k ms h.2)

-- a member of a stripped value
pub get-stripped : (k : List ℕ) (d : Data) → IsOrdered d
    → get k (stripped d) ≡ option_and_then (λ e. if is_fractional e then None else Some (stripped e)) (get k d)
get-stripped k null h = refl
get-stripped k (boolean b) h = refl
get-stripped k (number n) h = refl
get-stripped k (string s) h = refl
get-stripped k (array ds) h = refl
get-stripped k (object ms) h = get_member-stripped k ms h

-- ---- order

found_ordered : (o : Ordering) (k : List ℕ) (d e : Data) (ms : Members) → IsOrdered d → (get_member k ms ≡ Some e → IsOrdered e)
    → match_ordering o (get_member k ms) (Some d) (get_member k ms) ≡ Some e → IsOrdered e
found_ordered Less k d e ms x again is = again is
found_ordered Equal k d e ms x again is = subst IsOrdered (Some_inj d e is) x
found_ordered Greater k d e ms x again is = again is

get_member-IsOrdered : (k : List ℕ) (ms : Members) (e : Data) → AreMembersOrdered ms → get_member k ms ≡ Some e → IsOrdered e
get_member-IsOrdered k no_members e h is = not_found e is
get_member-IsOrdered k (member l d ms) e h is = found_ordered (cmp k l) k d e ms h.1 (get_member-IsOrdered k ms e h.2) is

pub get-IsOrdered : (k : List ℕ) (d e : Data) → IsOrdered d → get k d ≡ Some e → IsOrdered e
get-IsOrdered k null e h is = not_found e is
get-IsOrdered k (boolean b) e h is = not_found e is
get-IsOrdered k (number n) e h is = not_found e is
get-IsOrdered k (string s) e h is = not_found e is
get-IsOrdered k (array ds) e h is = not_found e is
get-IsOrdered k (object ms) e h is = get_member-IsOrdered k ms e h is

-- ---- a member left out

either : (o : Ordering) (a b : Option Data) → is_eq o ≡ false → match_ordering o a b a ≡ a
either Less a b e = refl
either Equal a b e = absurd (true≢false e)
either Greater a b e = refl

other_name : (k l : List ℕ) (b : Bool) → bytes_eq k l ≡ b → (k ≡ l → ⊥) → b ≡ false
other_name k l true e apart = absurd (apart ((bytes_eq-Decides k l).0 e))
other_name k l false e apart = refl

skips : (k l : List ℕ) (d : Data) (ms : Members) → (k ≡ l → ⊥) → get_member k (member l d ms) ≡ get_member k ms
skips k l d ms apart = either (cmp k l) (get_member k ms) (Some d) (is_eq-slice_cmp k l ∙ other_name k l _ refl apart)

other_turn : (b : Bool) (k r l : List ℕ) (d : Data) (ms : Members) → bytes_eq r l ≡ b → (k ≡ r → ⊥) → get_member k (without r ms) ≡ get_member k ms
    → get_member k (if b then without r ms else member l d (without r ms)) ≡ get_member k (member l d ms)
other_turn true k r l d ms is apart again =
    let same : r ≡ l = (bytes_eq-Decides r l).0 is in again ∙ sym (skips k l d ms (λ e. apart (e ∙ sym same)))
other_turn false k r l d ms is apart again = ap (λ o. match_ordering (cmp k l) o (Some d) o) again

get_member-without_other : (k r : List ℕ) (ms : Members) → (k ≡ r → ⊥) → get_member k (without r ms) ≡ get_member k ms
get_member-without_other k r no_members apart = refl
get_member-without_other k r (member l d ms) apart = other_turn (bytes_eq r l) k r l d ms refl apart (get_member-without_other k r ms apart)

pub get-without_other : (k r : List ℕ) (d : Data) → (k ≡ r → ⊥) → get k (without_member r d) ≡ get k d
get-without_other k r null apart = refl
get-without_other k r (boolean b) apart = refl
get-without_other k r (number n) apart = refl
get-without_other k r (string s) apart = refl
get-without_other k r (array ds) apart = refl
get-without_other k r (object ms) apart = get_member-without_other k r ms apart

-- strings that the test distinguishes are not the same
pub differ : (r l : List ℕ) → bytes_eq r l ≡ false → r ≡ l → ⊥
differ r l e same = true≢false (sym ((bytes_eq-Decides r l).1 same) ∙ e)

same_turn : (b : Bool) (r l : List ℕ) (d : Data) (ms : Members) → bytes_eq r l ≡ b → get_member r (without r ms) ≡ None
    → get_member r (if b then without r ms else member l d (without r ms)) ≡ None
same_turn true r l d ms is again = again
same_turn false r l d ms is again = skips r l d (without r ms) (differ r l is) ∙ again

get_member-without_same : (r : List ℕ) (ms : Members) → get_member r (without r ms) ≡ None
get_member-without_same r no_members = refl
get_member-without_same r (member l d ms) = same_turn (bytes_eq r l) r l d ms refl (get_member-without_same r ms)

pub get-without_same : (r : List ℕ) (d : Data) → get r (without_member r d) ≡ None
get-without_same r null = refl
get-without_same r (boolean b) = refl
get-without_same r (number n) = refl
get-without_same r (string s) = refl
get-without_same r (array ds) = refl
get-without_same r (object ms) = get_member-without_same r ms

swap_turn : (b f : Bool) (r l : List ℕ) (d : Data) (ms : Members) → bytes_eq r l ≡ b → is_fractional d ≡ f
    → stripped_members (without r ms) ≡ without r (stripped_members ms)
    → stripped_members (if b then without r ms else member l d (without r ms))
    ≡ without r (if f then stripped_members ms else member l (stripped d) (stripped_members ms))
swap_turn true true r l d ms is f again = again
swap_turn true false r l d ms is f again = rw is again
swap_turn false true r l d ms is f again = rw f again
swap_turn false false r l d ms is f again = rw (is, f) (ap (member l (stripped d)) again)

stripped_members-without : (r : List ℕ) (ms : Members) → stripped_members (without r ms) ≡ without r (stripped_members ms)
stripped_members-without r no_members = refl
stripped_members-without r (member l d ms) = swap_turn (bytes_eq r l) (is_fractional d) r l d ms refl refl (stripped_members-without r ms)

pub stripped-without : (r : List ℕ) (d : Data) → stripped (without_member r d) ≡ without_member r (stripped d)
stripped-without r null = refl
stripped-without r (boolean b) = refl
stripped-without r (number n) = refl
stripped-without r (string s) = refl
stripped-without r (array ds) = refl
stripped-without r (object ms) = ap object (stripped_members-without r ms)
