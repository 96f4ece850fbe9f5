-- Numbers of a value that is read are in range, and stay so.
use Rattle.std.proofs.Common.{◌≡◌, ℕ, zero, suc, ◌<◌, ◌≤◌, ◌^◌, ◌&&◌, ◌==◌, Bool, true, false, pos, negsuc, List, [], ◌∷◌, Option, Some, None, Ordering, Less, Equal, Greater, bytes_eq, refl, subst, arith, if◌then◌else◌}
use Rattle.std.specs.Prelude.{⊤, drop, nat_lt, nat_le, slice_index}
use Rattle.std.specs.Cmp.Lexicographic.{slice_cmp}
use Rattle.std.specs.Ordering.{nat_cmp, match_ordering}
use Rattle.std.specs.List.{AllByRecursion}
use Rattle.std.proofs.lemmas.Bool.{and_parts, ltb-true, leb-true}
use Rattle.std.specs.Float.{binary64, float_is_finite}
use Rattle.fast_float.specs.Text.{Parts, digits_of, minus, nearest, scan, with_sign}
use Rattle.json.specs.Json as json
use Rattle.serde_json.specs.Data.{Num, unsigned, negative, float, Data, null, boolean, number, string, array, object, Items, no_items, item, Members, no_members, member, put}
use Rattle.serde_json.specs.Find.{get_member}
use Rattle.serde_json.specs.Read.{float_of, is_integer, number_from, number_of, of_json}
use Rattle.serde_json.specs.View.{items_of}
use Rattle.json_parts.specs.Stripping.{stripped}
use Rattle.json_parts.specs.Without.{without}
use Rattle.json_parts.proofs.Keeping.{If, IsMade, json_has, stripping_keeps}
use Rattle.sarif_model.specs.Members.{elements}

-- an integer fits 64 bits
abbrev pub IsRangedNumber : Num → Type 0
IsRangedNumber (unsigned n) = n < 2 ^ 64
IsRangedNumber (negative (pos n)) = ⊥
IsRangedNumber (negative (negsuc n)) = n < 2 ^ 63
IsRangedNumber (float x) = ⊤

abbrev mutual
  pub IsRanged : Data → Type 0
  IsRanged null = ⊤
  IsRanged (boolean b) = ⊤
  IsRanged (number n) = IsRangedNumber n
  IsRanged (string s) = ⊤
  IsRanged (array ds) = AreItemsRanged ds
  IsRanged (object ms) = AreMembersRanged ms

  pub AreItemsRanged : Items → Type 0
  AreItemsRanged no_items = ⊤
  AreItemsRanged (item d ds) = IsRanged d × AreItemsRanged ds

  pub AreMembersRanged : Members → Type 0
  AreMembersRanged no_members = ⊤
  AreMembersRanged (member k d ms) = IsRanged d × AreMembersRanged ms

-- ---- numbers

float_ranged : (sign : Bool) (p : Parts) → If IsRangedNumber (float_of sign p)
float_ranged sign p = by_test (float_is_finite (nearest binary64 sign p))
  where
    by_test : (b : Bool) → If IsRangedNumber (if b then Some (float (nearest binary64 sign p)) else None)
    by_test true = tt
    by_test false = tt

negative_ranged : (n : ℕ) → 0 < n → n ≤ 2 ^ 63 → IsRangedNumber (negative (with_sign true n))
negative_ranged zero some fits = absurd (omega (arith, some))
negative_ranged (suc n) some fits = omega (arith, fits)

from_ranged : (sign : Bool) (p : Parts) → If IsRangedNumber (number_from sign p)
from_ranged false p = by_test (is_integer p && nat_lt (digits_of p) (2 ^ 64)) refl
  where
    by_test : (b : Bool) → (is_integer p && nat_lt (digits_of p) (2 ^ 64)) ≡ b
        → If IsRangedNumber (if b then Some (unsigned (digits_of p)) else float_of false p)
    by_test true is = ltb-true (digits_of p) (2 ^ 64) (and_parts (is_integer p) (nat_lt (digits_of p) (2 ^ 64)) is).1
    by_test false is = float_ranged false p
from_ranged true p = by_test (is_integer p && nat_lt 0 (digits_of p) && nat_le (digits_of p) (2 ^ 63)) refl
  where
    by_test : (b : Bool) → (is_integer p && nat_lt 0 (digits_of p) && nat_le (digits_of p) (2 ^ 63)) ≡ b
        → If IsRangedNumber (if b then Some (negative (with_sign true (digits_of p))) else float_of true p)
    by_test true is =
        let last = and_parts (is_integer p && nat_lt 0 (digits_of p)) (nat_le (digits_of p) (2 ^ 63)) is in
        let first = and_parts (is_integer p) (nat_lt 0 (digits_of p)) last.0 in
        negative_ranged (digits_of p) (ltb-true 0 (digits_of p) first.1) (leb-true (digits_of p) (2 ^ 63) last.1)
    by_test false is = float_ranged true p

number_ranged : (s : List ℕ) → If IsRangedNumber (number_of s)
unfolding number_of
number_ranged s = by_test (slice_index s 0 == minus)
  where
    by_test : (b : Bool) → If IsRangedNumber (if b then number_from true (scan (drop 1 s)) else number_from false (scan s))
    by_test true = from_ranged true (scan (drop 1 s))
    by_test false = from_ranged false (scan s)

-- ---- values that are read

put_at : (o : Ordering) (k l : List ℕ) (d e : Data) (ms more : Members) → IsRanged d → AreMembersRanged (member l e ms) → AreMembersRanged more
    → AreMembersRanged (match_ordering o (member k d (member l e ms)) (member l d ms) (member l e more))
put_at Less k l d e ms more here old rest = (here, old)
put_at Equal k l d e ms more here old rest = (here, old.1)
put_at Greater k l d e ms more here old rest = (old.0, rest)

pub put_ranged : (k : List ℕ) (d : Data) (ms : Members) → IsRanged d → AreMembersRanged ms → AreMembersRanged (put k d ms)
put_ranged k d no_members here old = (here, tt)
put_ranged k d (member l e ms) here old = put_at (slice_cmp nat_cmp k l) k l d e ms (put k d ms) here old (put_ranged k d ms here old.1)

made_ranged : IsMade IsRanged
made_ranged = record {
  at_null = tt;
  at_boolean = λ b. tt;
  at_number = number_ranged;
  at_string = λ s. tt;
  at_none = tt;
  at_item = λ d ds here rest. (here, rest);
  at_empty = tt;
  at_put = λ k d ms here all. put_ranged k d ms here all;
}

pub read_ranged : (j : json.Json) (d : Data) → of_json j ≡ Some d → IsRanged d
read_ranged j d is = subst (If IsRanged) is (json_has IsRanged made_ranged j)

-- ---- values that are taken from them

pub stripped_ranged : (d : Data) → IsRanged d → IsRanged (stripped d)
stripped_ranged = stripping_keeps IsRanged (record {
  parts = λ d ds is. is;
  whole = λ d ds first rest. (first, rest);
  inner = λ k d ms is. is;
  outer = λ k d ms is first rest. (first, rest);
})

pub without_ranged : (name : List ℕ) (ms : Members) → AreMembersRanged ms → AreMembersRanged (without name ms)
without_ranged name no_members are = tt
without_ranged name (member k d ms) are =
    elim (bytes_eq name k) as (λ b. AreMembersRanged (if b then without name ms else member k d (without name ms))) [
      | true ↦ without_ranged name ms are.1
      | false ↦ (are.0, without_ranged name ms are.1)
    ]

found_at : (o : Ordering) (d : Data) (found : Option Data) → IsRanged d → If IsRanged found → If IsRanged (match_ordering o found (Some d) found)
found_at Less d found here rest = rest
found_at Equal d found here rest = here
found_at Greater d found here rest = rest

pub member_ranged : (name : List ℕ) (ms : Members) → AreMembersRanged ms → If IsRanged (get_member name ms)
member_ranged name no_members are = tt
member_ranged name (member k d ms) are = found_at (slice_cmp nat_cmp name k) d (get_member name ms) are.0 (member_ranged name ms are.1)

pub elements_ranged : (ds : Items) → AreItemsRanged ds → AllByRecursion IsRanged (elements ds)
elements_ranged no_items are = tt
elements_ranged (item d ds) are = (are.0, elements_ranged ds are.1)

pub list_ranged : (ds : List Data) → AllByRecursion IsRanged ds → AreItemsRanged (items_of ds)
list_ranged [] all = tt
list_ranged (d ∷ ds) all = (all.0, list_ranged ds all.1)
