-- The test of a value, element by element.
use Rattle.std.proofs.Common.{◌≡◌, ℕ, suc, ◌-◌, ◌<◌, max, List, Option, Some, None, option_map, option_and_then, is_some, Bool, true, false, ◌&&◌, nat_le, refl, sym, ap, ap₂, ◌∙◌, arith}
use Rattle.json.specs.Find.{as_number, as_array, as_object}
use Rattle.json.specs.Json.{Json, null, boolean, number, string, array, object, Items, no_items, item, Members, no_members, member}
use Rattle.json.specs.Tree.{depth, items_depth, members_depth}
use Rattle.serde_json.specs.Data as data_
use Rattle.serde_json.specs.Read.{number_of, of_json, of_items, of_members}
use Rattle.json_parts.specs.Internal.Walking.{named_of, put_all}
use Rattle.json_parts.proofs.Readings.{not_found, Some_inj, of_members-named}

abbrev pub passes : ℕ → Json → Bool
passes n j = nat_le (depth j) n && is_some (of_json j)

abbrev pub items_pass : ℕ → Items → Bool
items_pass n js = nat_le (items_depth js) n && is_some (of_items js)

abbrev pub members_pass : ℕ → Members → Bool
members_pass n ms = nat_le (members_depth ms) n && is_some (named_of ms)

max_within : (a b n : ℕ) → nat_le (max a b) n ≡ (nat_le a n && nat_le b n)
max_within a b n = grind arith

pub is_some-map : {A B : Type 0} (f : A → B) (o : Option A) → is_some (option_map f o) ≡ is_some o
is_some-map f None = refl
is_some-map f (Some a) = refl

is_some-both : {A B C : Type 0} (f : A → B → C) (o : Option A) (p : Option B) → is_some (option_and_then (λ a. option_map (f a) p) o) ≡ (is_some o && is_some p)
is_some-both f None p = refl
is_some-both f (Some a) p = is_some-map (f a) p

swap : (a b c d : Bool) → ((a && b) && (c && d)) ≡ ((a && c) && (b && d))
swap false b c d = refl
swap true false false d = refl
swap true false true d = refl
swap true true c d = refl

pub items_pass-item : (n : ℕ) (j : Json) (js : Items) → items_pass n (item j js) ≡ (passes n j && items_pass n js)
items_pass-item n j js = ap₂ (λ a b. a && b) (max_within (depth j) (items_depth js) n) (is_some-both data_.item (of_json j) (of_items js))
    ∙ swap (nat_le (depth j) n) (nat_le (items_depth js) n) (is_some (of_json j)) (is_some (of_items js))

pub members_pass-member : (n : ℕ) (k : List ℕ) (j : Json) (ms : Members) → members_pass n (member k j ms) ≡ (passes n j && members_pass n ms)
members_pass-member n k j ms =
    ap₂ (λ a b. a && b) (max_within (depth j) (members_depth ms) n) (is_some-both (data_.member k) (of_json j) (named_of ms))
    ∙ swap (nat_le (depth j) n) (nat_le (members_depth ms) n) (is_some (of_json j)) (is_some (named_of ms))

one_less : (a n : ℕ) → 0 < n → nat_le (suc a) n ≡ nat_le a (n - 1)
one_less a n some = grind arith

pub passes-array : (n : ℕ) (js : Items) → 0 < n → passes n (array js) ≡ items_pass (n - 1) js
passes-array n js some = ap₂ (λ a b. a && b) (one_less (items_depth js) n some) (is_some-map data_.array (of_items js))

pub passes-object : (n : ℕ) (ms : Members) → 0 < n → passes n (object ms) ≡ members_pass (n - 1) ms
passes-object n ms some =
    ap₂ (λ a b. a && b) (one_less (members_depth ms) n some)
    (is_some-map data_.object (of_members ms data_.no_members) ∙ ap is_some (of_members-named ms data_.no_members)
    ∙ is_some-map (λ ns. put_all ns data_.no_members) (named_of ms))

within : (n : ℕ) (b : Bool) → (nat_le 0 n && b) ≡ b
within n b = let least : nat_le 0 n ≡ true = grind arith in ap (λ x. x && b) least

pub passes-number : (n : ℕ) (j : Json) (s : List ℕ) → Some s ≡ as_number j → passes n j ≡ is_some (number_of s)
passes-number n null s e = not_found s (sym e)
passes-number n (boolean b) s e = not_found s (sym e)
passes-number n (number t) s e = within n _ ∙ is_some-map data_.number (number_of t) ∙ ap (λ x. is_some (number_of x)) (sym (Some_inj s t e))
passes-number n (string t) s e = not_found s (sym e)
passes-number n (array js) s e = not_found s (sym e)
passes-number n (object ms) s e = not_found s (sym e)

pub passes-plain : (n : ℕ) (j : Json) → None ≡ as_number j → as_array j ≡ None → as_object j ≡ None → passes n j ≡ true
passes-plain n null e f g = within n true
passes-plain n (boolean b) e f g = within n true
passes-plain n (number t) e f g = not_found t e
passes-plain n (string t) e f g = within n true
passes-plain n (array js) e f g = not_found js (sym f)
passes-plain n (object ms) e f g = not_found ms (sym g)

pub passes-flat_array : (n : ℕ) (js : Items) → n ≡ 0 → passes n (array js) ≡ false
passes-flat_array n js e = let beyond : nat_le (suc (items_depth js)) n ≡ false = grind arith in ap (λ x. x && is_some (of_json (array js))) beyond

pub passes-flat_object : (n : ℕ) (ms : Members) → n ≡ 0 → passes n (object ms) ≡ false
passes-flat_object n ms e = let beyond : nat_le (suc (members_depth ms)) n ≡ false = grind arith in ap (λ x. x && is_some (of_json (object ms))) beyond

pub no_more_items : (n : ℕ) (js : Items) → js ≡ no_items → items_pass n js ≡ true
no_more_items n js e = ap (items_pass n) e ∙ within n true

pub no_more_members : (n : ℕ) (ms : Members) → ms ≡ no_members → members_pass n ms ≡ true
no_more_members n ms e = ap (members_pass n) e ∙ within n true
