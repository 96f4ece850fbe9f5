-- One pass over tokens, and the value that they begin with.
use Rattle.std.proofs.Common.{◌≡◌, ℕ, zero, suc, ◌-◌, List, [], ◌∷◌, length, Option, Some, None, option_and_then, is_some, Bool, true, false, ◌&&◌, refl, sym, ap, ◌∙◌, arith}
use mathlib.Core.Bool.{and-true}
use Rattle.json.specs.Token.{Token}
use Rattle.json.specs.Json.{Json, null, boolean, number, string, array, object, Items, no_items, item, Members, no_members, member, Parse, parse_map, after_end_array, read_key, items_step, members_step, items, members, value_with, value}
use Rattle.serde_json.specs.Read.{number_of}
use Rattle.json_parts.specs.Internal.Whole.{IsWhole}
use Rattle.json_parts.proofs.Passing.{passes, items_pass, members_pass, items_pass-item, members_pass-member, passes-array, passes-object, passes-number, passes-plain, passes-flat_array, passes-flat_object, no_more_items, no_more_members}
use Rattle.json_parts.proofs.Readings.{not_found, Some_inj, mapped_some, and_then_some}

-- one level less, if there is one
abbrev pub deeper : ℕ → (ℕ → Bool) → Bool
deeper zero rest = false
deeper (suc n) rest = rest n

-- whether the opening brackets find a level among this many, and the numbers are close to a float
abbrev pub scan : ℕ → List Token → Bool
scan n [] = true
scan n (Token.begin_object ∷ ts) = deeper n (λ m. scan m ts)
scan n (Token.end_object ∷ ts) = scan (suc n) ts
scan n (Token.begin_array ∷ ts) = deeper n (λ m. scan m ts)
scan n (Token.end_array ∷ ts) = scan (suc n) ts
scan n (Token.key s ∷ ts) = scan n ts
scan n (Token.string s ∷ ts) = scan n ts
scan n (Token.number s ∷ ts) = is_some (number_of s) && scan n ts
scan n (Token.boolean b ∷ ts) = scan n ts
scan n (Token.null ∷ ts) = scan n ts
scan n (Token.bad ∷ ts) = scan n ts

and_three : (a b c : Bool) → (a && (b && c)) ≡ ((a && b) && c)
and_three true b c = refl
and_three false b c = refl

-- what is scanned of a value, and then of the rest
abbrev Scans : {A : Type 0} → (ℕ → A → Bool) → (ℕ → ℕ) → Parse A → Type 0
Scans {A = A} pass up parse = (n : ℕ) (ts rest : List Token) (a : A) → parse ts ≡ Some (a, rest) → scan n ts ≡ (pass n a && scan (up n) rest)

-- ---- arrays and objects

ends_array : (n : ℕ) (ts r : List Token) → after_end_array ts ≡ Some r → scan n ts ≡ scan (suc n) r
ends_array n [] r e = not_found r e
ends_array n (Token.begin_object ∷ ts) r e = not_found r e
ends_array n (Token.end_object ∷ ts) r e = not_found r e
ends_array n (Token.begin_array ∷ ts) r e = not_found r e
ends_array n (Token.end_array ∷ ts) r e = ap (scan (suc n)) (Some_inj ts r e)
ends_array n (Token.key s ∷ ts) r e = not_found r e
ends_array n (Token.string s ∷ ts) r e = not_found r e
ends_array n (Token.number s ∷ ts) r e = not_found r e
ends_array n (Token.boolean b ∷ ts) r e = not_found r e
ends_array n (Token.null ∷ ts) r e = not_found r e
ends_array n (Token.bad ∷ ts) r e = not_found r e

-- one more level after the end of an object, and the same after a key
abbrev behind_key : ℕ → Option (List ℕ) → List Token → Bool
behind_key n None r = scan (suc n) r
behind_key n (Some k) r = scan n r

reads_key : (n : ℕ) (ts r : List Token) (k : Option (List ℕ)) → read_key ts ≡ Some (k, r) → scan n ts ≡ behind_key n k r
reads_key n [] r k e = not_found (k, r) e
reads_key n (Token.begin_object ∷ ts) r k e = not_found (k, r) e
reads_key n (Token.end_object ∷ ts) r k e = ap (λ q. behind_key n q.0 q.1) (Some_inj (None, ts) (k, r) e)
reads_key n (Token.begin_array ∷ ts) r k e = not_found (k, r) e
reads_key n (Token.end_array ∷ ts) r k e = not_found (k, r) e
reads_key n (Token.key s ∷ ts) r k e = ap (λ q. behind_key n q.0 q.1) (Some_inj (Some s, ts) (k, r) e)
reads_key n (Token.string s ∷ ts) r k e = not_found (k, r) e
reads_key n (Token.number s ∷ ts) r k e = not_found (k, r) e
reads_key n (Token.boolean b ∷ ts) r k e = not_found (k, r) e
reads_key n (Token.null ∷ ts) r k e = not_found (k, r) e
reads_key n (Token.bad ∷ ts) r k e = not_found (k, r) e

module _ (p : Parse Json) (each : Scans passes (λ n. n) p) where
  after_item : (n : ℕ) (ts rest : List Token) (js : Items) (more : Parse Items) → Scans items_pass suc more
      → option_and_then (λ q. parse_map (item q.0) (more q.1)) (p ts) ≡ Some (js, rest) → scan n ts ≡ (items_pass n js && scan (suc n) rest)
  after_item n ts rest js more scans is =
      let first = and_then_some (λ q. parse_map (item q.0) (more q.1)) (p ts) (js, rest) is in
      let later = mapped_some (λ a. (item first.0.0 a.0, a.1)) (more first.0.1) (js, rest) first.2 in
      each n ts first.0.1 first.0.0 first.1
      ∙ ap (λ b. passes n first.0.0 && b) (scans n first.0.1 later.0.1 later.0.0 later.1)
      ∙ and_three (passes n first.0.0) (items_pass n later.0.0) (scan (suc n) later.0.1)
      ∙ ap (λ b. b && scan (suc n) later.0.1) (sym (items_pass-item n first.0.0 later.0.0))
      ∙ ap (λ q. items_pass n q.0 && scan (suc n) q.1) later.2

  item_turn : (n : ℕ) (ts rest : List Token) (js : Items) (more : Parse Items) → Scans items_pass suc more → (o : Option (List Token)) → after_end_array ts ≡ o
      → items_step p more ts o ≡ Some (js, rest) → scan n ts ≡ (items_pass n js && scan (suc n) rest)
  item_turn n ts rest js more scans None end is = after_item n ts rest js more scans is
  item_turn n ts rest js more scans (Some r) end is =
      ends_array n ts r end
      ∙ ap (λ b. b && scan (suc n) r) (sym (no_more_items n no_items refl))
      ∙ ap (λ q. items_pass n q.0 && scan (suc n) q.1) (Some_inj (no_items, r) (js, rest) is)

  items_scan : (k : ℕ) → Scans items_pass suc (items p k)
  unfolding items
  items_scan zero n ts rest js is = not_found (js, rest) is
  items_scan (suc k) n ts rest js is = item_turn n ts rest js (items p k) (items_scan k) (after_end_array ts) refl is

  after_member : (n : ℕ) (k : List ℕ) (ts rest : List Token) (ms : Members) (more : Parse Members) → Scans members_pass suc more
      → option_and_then (λ q. parse_map (member k q.0) (more q.1)) (p ts) ≡ Some (ms, rest) → scan n ts ≡ (members_pass n ms && scan (suc n) rest)
  after_member n k ts rest ms more scans is =
      let first = and_then_some (λ q. parse_map (member k q.0) (more q.1)) (p ts) (ms, rest) is in
      let later = mapped_some (λ a. (member k first.0.0 a.0, a.1)) (more first.0.1) (ms, rest) first.2 in
      each n ts first.0.1 first.0.0 first.1
      ∙ ap (λ b. passes n first.0.0 && b) (scans n first.0.1 later.0.1 later.0.0 later.1)
      ∙ and_three (passes n first.0.0) (members_pass n later.0.0) (scan (suc n) later.0.1)
      ∙ ap (λ b. b && scan (suc n) later.0.1) (sym (members_pass-member n k first.0.0 later.0.0))
      ∙ ap (λ q. members_pass n q.0 && scan (suc n) q.1) later.2

  member_turn : (n : ℕ) (ts rest : List Token) (ms : Members) (more : Parse Members) → Scans members_pass suc more
      → (o : Option (Option (List ℕ) × List Token)) → read_key ts ≡ o
      → option_and_then (λ q. members_step p more q.0 q.1) o ≡ Some (ms, rest) → scan n ts ≡ (members_pass n ms && scan (suc n) rest)
  member_turn n ts rest ms more scans None read is = not_found (ms, rest) is
  member_turn n ts rest ms more scans (Some (None, r)) read is =
      reads_key n ts r None read
      ∙ ap (λ b. b && scan (suc n) r) (sym (no_more_members n no_members refl))
      ∙ ap (λ q. members_pass n q.0 && scan (suc n) q.1) (Some_inj (no_members, r) (ms, rest) is)
  member_turn n ts rest ms more scans (Some (Some k, r)) read is = reads_key n ts r (Some k) read ∙ after_member n k r rest ms more scans is

  members_scan : (k : ℕ) → Scans members_pass suc (members p k)
  unfolding members
  members_scan zero n ts rest ms is = not_found (ms, rest) is
  members_scan (suc k) n ts rest ms is = member_turn n ts rest ms (members p k) (members_scan k) (read_key ts) refl is

-- ---- a value

array_scans : (n : ℕ) (ts r : List Token) (js : Items) → ((k : ℕ) → scan k ts ≡ (items_pass k js && scan (suc k) r))
    → deeper n (λ m. scan m ts) ≡ (passes n (array js) && scan n r)
array_scans zero ts r js each = ap (λ b. b && scan zero r) (sym (passes-flat_array zero js refl))
array_scans (suc k) ts r js each =
    let less : suc k - 1 ≡ k = omega arith in
    each k ∙ ap (λ b. b && scan (suc k) r) (sym (passes-array (suc k) js (omega arith) ∙ ap (λ m. items_pass m js) less))

object_scans : (n : ℕ) (ts r : List Token) (ms : Members) → ((k : ℕ) → scan k ts ≡ (members_pass k ms && scan (suc k) r))
    → deeper n (λ m. scan m ts) ≡ (passes n (object ms) && scan n r)
object_scans zero ts r ms each = ap (λ b. b && scan zero r) (sym (passes-flat_object zero ms refl))
object_scans (suc k) ts r ms each =
    let less : suc k - 1 ≡ k = omega arith in
    each k ∙ ap (λ b. b && scan (suc k) r) (sym (passes-object (suc k) ms (omega arith) ∙ ap (λ m. members_pass m ms) less))

plain_scans : (n : ℕ) (v j : Json) (ts rest : List Token) → passes n v ≡ true
    → ◌≡◌ {A = Option (Json × List Token)} (Some (v, ts)) (Some (j, rest)) → scan n ts ≡ (passes n j && scan n rest)
plain_scans n v j ts rest near is = ap (λ b. b && scan n ts) (sym near) ∙ ap (λ q. passes n q.0 && scan n q.1) (Some_inj (v, ts) (j, rest) is)

with_scans : (a : Parse Items) (o : Parse Members) → Scans items_pass suc a → Scans members_pass suc o → Scans passes (λ n. n) (value_with a o)
with_scans a o of_items of_members n [] rest j is = not_found (j, rest) is
with_scans a o of_items of_members n (Token.begin_object ∷ ts) rest j is =
    let m = mapped_some (λ q. (object q.0, q.1)) (o ts) (j, rest) is in
    object_scans n ts m.0.1 m.0.0 (λ k. of_members k ts m.0.1 m.0.0 m.1) ∙ ap (λ q. passes n q.0 && scan n q.1) m.2
with_scans a o of_items of_members n (Token.end_object ∷ ts) rest j is = not_found (j, rest) is
with_scans a o of_items of_members n (Token.begin_array ∷ ts) rest j is =
    let m = mapped_some (λ q. (array q.0, q.1)) (a ts) (j, rest) is in
    array_scans n ts m.0.1 m.0.0 (λ k. of_items k ts m.0.1 m.0.0 m.1) ∙ ap (λ q. passes n q.0 && scan n q.1) m.2
with_scans a o of_items of_members n (Token.end_array ∷ ts) rest j is = not_found (j, rest) is
with_scans a o of_items of_members n (Token.key s ∷ ts) rest j is = not_found (j, rest) is
with_scans a o of_items of_members n (Token.string s ∷ ts) rest j is = plain_scans n (string s) j ts rest (passes-plain n (string s) refl refl refl) is
with_scans a o of_items of_members n (Token.number s ∷ ts) rest j is =
    ap (λ b. b && scan n ts) (sym (passes-number n (number s) s refl)) ∙ ap (λ q. passes n q.0 && scan n q.1) (Some_inj (number s, ts) (j, rest) is)
with_scans a o of_items of_members n (Token.boolean b ∷ ts) rest j is = plain_scans n (boolean b) j ts rest (passes-plain n (boolean b) refl refl refl) is
with_scans a o of_items of_members n (Token.null ∷ ts) rest j is = plain_scans n null j ts rest (passes-plain n null refl refl refl) is
with_scans a o of_items of_members n (Token.bad ∷ ts) rest j is = not_found (j, rest) is

value_scans : (e : ℕ) → Scans passes (λ n. n) (value e)
unfolding value
value_scans zero = with_scans (λ ts. None) (λ ts. None) (λ n ts rest js is. not_found (js, rest) is) (λ n ts rest ms is. not_found (ms, rest) is)
value_scans (suc e) =
    with_scans (λ ts. items (value e) (length ts) ts) (λ ts. members (value e) (length ts) ts)
    (λ n ts. items_scan (value e) (value_scans e) (length ts) n ts) (λ n ts. members_scan (value e) (value_scans e) (length ts) n ts)

pub whole_scanned : (n : ℕ) (ts : List Token) (j : Json) → IsWhole ts j → scan n ts ≡ passes n j
whole_scanned n ts j (e, is) = value_scans e n ts [] j is ∙ and-true (passes n j)
