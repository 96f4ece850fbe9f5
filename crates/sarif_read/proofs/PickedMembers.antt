-- Members that are picked are those of the value.
use Rattle.std.proofs.Common.{◌≡◌, ◌||◌, ℕ, Bool, true, false, List, [], ◌∷◌, Option, Some, None, bytes_eq, refl, sym, ap, ◌∙◌}
use Rattle.std.specs.Prelude.{option_and_then, unwrap_or}
use Rattle.std.specs.List.{list_any}
use Rattle.std.proofs.lemmas.Slice.Eq.{bytes_eq-Decides}
use Rattle.sarif_model.specs.Written.{with_value}
use Rattle.json.specs.Token.{Token}
use Rattle.json.specs.Json as json
use Rattle.serde_json.specs.Data.{Data, null, Members, no_members}
use Rattle.serde_json.specs.Find.{get, get_member}
use Rattle.serde_json.specs.Read.{max_depth, of_json}
use Rattle.serde_json.proofs.Views.{get_member-put, get_member-put_other}
use Rattle.json_parts.specs.Indexed.{data_of}
use Rattle.json_parts.specs.Internal.Ordered.{IsOrdered}
use Rattle.json_parts.proofs.Order.{read_ordered}
use Rattle.json_parts.proofs.Stripped.{differ}
use Rattle.sarif_read.specs.Internal.Picked.{picked, picked_onto}

-- ---- the value of tokens has ordered members

value_ordered : (j : json.Json) (o : Option Data) → of_json j ≡ o → IsOrdered (unwrap_or o null)
value_ordered j None is = tt
value_ordered j (Some d) is = read_ordered j d is

found_ordered : (found : Option (json.Json × List Token)) → IsOrdered (unwrap_or (option_and_then (λ p. of_json p.0) found) null)
found_ordered None = tt
found_ordered (Some p) = value_ordered p.0 (of_json p.0) refl

pub data_ordered : (ts : List Token) → IsOrdered (data_of ts)
unfolding data_of
data_ordered ts = found_ordered (json.value max_depth ts)

-- ---- members that are picked

own_here : (k : List ℕ) (o : Option Data) (ms : Members) → (o ≡ None → get_member k ms ≡ None) → get_member k (with_value k o ms) ≡ o
own_here k None ms rest = rest refl
own_here k (Some d) ms rest = get_member-put k d ms

own_other : (k n : List ℕ) (o : Option Data) (ms : Members) → (k ≡ n → ⊥) → get_member k (with_value n o ms) ≡ get_member k ms
own_other k n None ms apart = refl
own_other k n (Some d) ms apart = get_member-put_other k n d ms apart

own_again : (b : Bool) (k n : List ℕ) (d : Data) (ms : Members) → bytes_eq k n ≡ b → get_member k ms ≡ get k d
    → get_member k (with_value n (get n d) ms) ≡ get k d
own_again true k n d ms test there =
    let same : n ≡ k = sym ((bytes_eq-Decides k n).0 test) in
    ap (λ m. get_member k (with_value m (get m d) ms)) same ∙ own_here k (get k d) ms (λ none. there ∙ none)
own_again false k n d ms test there = own_other k n (get n d) ms (differ k n test) ∙ there

-- what is there stays
stays : (k : List ℕ) (ms : Members) (names : List (List ℕ)) (d : Data) → get_member k ms ≡ get k d → get_member k (picked_onto ms names d) ≡ get k d
stays k ms [] d there = there
stays k ms (n ∷ ns) d there = stays k (with_value n (get n d) ms) ns d (own_again (bytes_eq k n) k n d ms refl there)

onto_by : (b : Bool) (k n : List ℕ) (ns : List (List ℕ)) (d : Data) (ms : Members) → bytes_eq k n ≡ b
    → (get k d ≡ None → get_member k ms ≡ None)
    → ((later : Members) → (get k d ≡ None → get_member k later ≡ None) → list_any (bytes_eq k) ns ≡ true → get_member k (picked_onto later ns d) ≡ get k d)
    → (b || list_any (bytes_eq k) ns) ≡ true
    → get_member k (picked_onto (with_value n (get n d) ms) ns d) ≡ get k d
onto_by true k n ns d ms test none rest h =
    let same : n ≡ k = sym ((bytes_eq-Decides k n).0 test) in
    stays k (with_value n (get n d) ms) ns d (ap (λ m. get_member k (with_value m (get m d) ms)) same ∙ own_here k (get k d) ms none)
onto_by false k n ns d ms test none rest h =
    rest (with_value n (get n d) ms) (λ e. own_other k n (get n d) ms (differ k n test) ∙ none e) h

onto_get : (k : List ℕ) (ms : Members) (names : List (List ℕ)) (d : Data) → (get k d ≡ None → get_member k ms ≡ None) → list_any (bytes_eq k) names ≡ true
    → get_member k (picked_onto ms names d) ≡ get k d
onto_get k ms [] d none h = cc
onto_get k ms (n ∷ ns) d none h = onto_by (bytes_eq k n) k n ns d ms refl none (λ later. onto_get k later ns d) h

-- a member of one of these names is found as in the value
pub picked_get : (k : List ℕ) (names : List (List ℕ)) (d : Data) → list_any (bytes_eq k) names ≡ true → get k (picked names d) ≡ get k d
picked_get k names d h = onto_get k no_members names d (λ none. refl) h
