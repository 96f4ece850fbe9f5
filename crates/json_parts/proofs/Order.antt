-- In data that is read, each object's members strictly rise.
use Rattle.std.proofs.Common.{◌≡◌, ℕ, List, Option, Some, None, Ordering, Less, Equal, Greater, refl, ap, ◌∙◌, subst}
use Rattle.std.specs.Prelude.{⊤}
use Rattle.std.proofs.lemmas.Cmp.{nat_list_cmp_total}
use Rattle.std.specs.Cmp.Lexicographic.{slice_cmp}
use Rattle.std.specs.Ordering.{nat_cmp, match_ordering, ordering_reverse}
use Rattle.json.specs.Token.{Token}
use Rattle.json.specs.Json as json
use Rattle.serde_json.specs.Data.{Data, Members, no_members, member, put}
use Rattle.serde_json.specs.Read.{number_of, of_json}
use Rattle.json_parts.specs.Indexed.{data_of, IsReadable}
use Rattle.json_parts.specs.Internal.Ordered.{IsBelow, IsOrdered, AreMembersOrdered}
use Rattle.json_parts.proofs.Keeping.{If, IsMade, json_has}
use Rattle.json_parts.proofs.Readings.{known}

abbrev cmp : List ℕ → List ℕ → Ordering
cmp = slice_cmp nat_cmp

below_put_at : (o : Ordering) (l k e : List ℕ) (d c : Data) (ms more : Members) → cmp l k ≡ Less → cmp l e ≡ Less → IsBelow l ms → IsBelow l more
    → IsBelow l (match_ordering o (member k d (member e c ms)) (member e d ms) (member e c more))
below_put_at Less l k e d c ms more a b r q = (a, (b, r))
below_put_at Equal l k e d c ms more a b r q = (b, r)
below_put_at Greater l k e d c ms more a b r q = (b, q)

below_put : (l k : List ℕ) (d : Data) (ms : Members) → cmp l k ≡ Less → IsBelow l ms → IsBelow l (put k d ms)
below_put l k d no_members a r = (a, tt)
below_put l k d (member e c ms) a r = below_put_at (cmp k e) l k e d c ms (put k d ms) a r.0 r.1 (below_put l k d ms a r.1)

pub below_all : (k l : List ℕ) (ms : Members) → cmp k l ≡ Less → IsBelow l ms → IsBelow k ms
below_all k l no_members a r = tt
below_all k l (member e c ms) a r = (nat_list_cmp_total.trans k l e a r.0, below_all k l ms a r.1)

ordered_put_at : (o : Ordering) (k e : List ℕ) (d c : Data) (ms more : Members) → cmp k e ≡ o → IsOrdered d
    → AreMembersOrdered (member e c ms) → (cmp e k ≡ Less → IsBelow e more) → AreMembersOrdered more
    → AreMembersOrdered (match_ordering o (member k d (member e c ms)) (member e d ms) (member e c more))
ordered_put_at Less k e d c ms more is x h below q = ((is, below_all k e ms is h.0), x, h)
ordered_put_at Equal k e d c ms more is x h below q = (h.0, x, h.2)
ordered_put_at Greater k e d c ms more is x h below q = (below (nat_list_cmp_total.antisymm e k ∙ ap ordering_reverse is), h.1, q)

pub ordered_put : (k : List ℕ) (d : Data) (ms : Members) → IsOrdered d → AreMembersOrdered ms → AreMembersOrdered (put k d ms)
ordered_put k d no_members x h = (tt, x, tt)
ordered_put k d (member e c ms) x h = ordered_put_at (cmp k e) k e d c ms (put k d ms) refl x h (λ a. below_put e k d ms a h.0) (ordered_put k d ms x h.2)

any : {A : Type 0} (o : Option A) → If (λ _. ⊤) o
any None = tt
any (Some a) = tt

made_ordered : IsMade IsOrdered
made_ordered = record {
  at_null = tt;
  at_boolean = λ b. tt;
  at_number = λ s. any (number_of s);
  at_string = λ s. tt;
  at_none = tt;
  at_item = λ d ds x h. (x, h);
  at_empty = tt;
  at_put = λ k d ms x h. ordered_put k d ms x h;
}

pub read_ordered : (j : json.Json) (d : Data) → of_json j ≡ Some d → IsOrdered d
read_ordered j d e = subst (If IsOrdered) e (json_has IsOrdered made_ordered j)

pub readable_ordered : (ts : List Token) → IsReadable ts → IsOrdered (data_of ts)
readable_ordered ts r = let k = known ts r in read_ordered k.0 (data_of ts) k.3
