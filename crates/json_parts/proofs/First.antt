-- The first of a map's members, and its text after another member.
use Rattle.std.proofs.Common.{◌≡◌, ◌≤◌, ℕ, true, false, List, [], ◌∷◌, length, get_or, Some, Ordering, Less, Equal, Greater, nat_cmp, string_bytes, refl, ap, ◌∙◌, arith}
use Rattle.std.specs.Prelude.{slice_get, drop}
use Rattle.std.specs.String.Boundary.{IsSplitPoint}
use Rattle.std.specs.Ordering.{match_ordering}
use Rattle.std.specs.Cmp.Lexicographic.{slice_cmp}
use Rattle.serde_json.proofs.Views.{Entry}
use Rattle.serde_json.specs.Data.{object, Members, no_members, member}
use Rattle.serde_json.specs.View.{members_view}
use Rattle.serde_json.specs.Written.{compact_text, members_text}
use Rattle.json_parts.specs.Internal.Around.{begins_at, begins_below}

-- what the comparison with the first name says
pub at_first : (name : List ℕ) (es : List Entry) (e : Entry) (o : Ordering) → slice_get es 0 ≡ Some e → slice_cmp nat_cmp name (string_bytes e.0) ≡ o
    → begins_at name (members_view es) ≡ match_ordering o false true false
at_first name [] e o here is = absurd (grind (arith, here))
at_first name (d ∷ es) e o here is =
    let same : d ≡ e = grind (arith, here) in
    ap (λ x. match_ordering (slice_cmp nat_cmp name (string_bytes x.0)) false true false) same ∙ ap (λ x. match_ordering x false true false) is

pub below_first : (name : List ℕ) (es : List Entry) (e : Entry) (o : Ordering) → slice_get es 0 ≡ Some e → slice_cmp nat_cmp name (string_bytes e.0) ≡ o
    → begins_below name (members_view es) ≡ match_ordering o false false true
below_first name [] e o here is = absurd (grind (arith, here))
below_first name (d ∷ es) e o here is =
    let same : d ≡ e = grind (arith, here) in
    ap (λ x. match_ordering (slice_cmp nat_cmp name (string_bytes x.0)) false false true) same ∙ ap (λ x. match_ordering x false false true) is

-- members after another one: a comma, and the object's text without its bracket
pub rest_text : (ms : Members) (s : List ℕ) → (ms ≡ no_members → ⊥) → s ≡ compact_text (object ms) → 44 ∷ drop 1 s ≡ members_text true ms
rest_text no_members s some shown = absurd (some refl)
rest_text (member k d ms) s some shown = ap (λ t. 44 ∷ drop 1 t) shown

-- a comparison with a different result
pub isnt_equal : (o : Ordering) → (o ≡ Equal → ⊥) → match_ordering o false true false ≡ false
isnt_equal Less isnt = refl
isnt_equal Equal isnt = absurd (isnt refl)
isnt_equal Greater isnt = refl

pub isnt_greater : (o : Ordering) → (o ≡ Greater → ⊥) → match_ordering o false false true ≡ false
isnt_greater Less isnt = refl
isnt_greater Equal isnt = refl
isnt_greater Greater isnt = absurd (isnt refl)

-- a map that holds something shows some member
pub nonempty : (es : List Entry) → (length es ≡ 0 → ⊥) → members_view es ≡ no_members → ⊥
nonempty [] some none = absurd (some refl)
nonempty (e ∷ es) some none = cc

-- an object's text can be cut after its bracket, where a name begins
pub bracket_split : (ms : Members) (s : List ℕ) → (ms ≡ no_members → ⊥) → s ≡ compact_text (object ms) → IsSplitPoint s 1
bracket_split no_members s some shown = absurd (some refl)
bracket_split (member k d ms) s some shown =
    let long : 2 ≤ length s = grind (arith, ap length shown) in
    let quote : get_or s 1 0 ≡ 34 = ap (λ t. get_or t 1 0) shown in
    (omega arith, λ _ _ high. absurd (omega (arith, quote)))
