-- One turn of the builder's loops, and their ends.
use Rattle.std.proofs.Common.{◌≡◌, ℕ, suc, ◌+◌, ◌-◌, ◌≤◌, List, [], ◌∷◌, ◌++◌, length, slice_set, Some, None, refl, sym, ap, ap₂, ◌∙◌, subst, arith}
use Rattle.std.proofs.lemmas.List.{length-append}
use Rattle.std.specs.Borrow.{Bor}
use Rattle.json.specs.Token.{Token, begin_object, end_object, begin_array, end_array}
use Rattle.json.specs.Json.{after_end_array, read_key, items, members, value, skip_value}
use Rattle.json.specs.Reads.{skip_items, skip_members}
use Rattle.json.specs.Tape.{node_token, Grown, LinkAt, Passes}
use Rattle.json.specs.declared.tape.Node.{Node}
use Rattle.json.specs.declared.tape.Node.TheVariants.{Object, EndObject, Array, EndArray, Key}
use Rattle.json.proofs.Grammar.{left, left-parse_map, read_key-shorter, read_key_is, items_end, members_end, skip_item, skip_member, skip_value-shorter}
use Rattle.json_parts.proofs.Grown.{grown_trans, grown_push, grown_close}

pub item_turn : (depth n : ℕ) (opened nodes new : List Node) (first now r : List Token) → length now ≤ n
    → skip_items depth first ≡ left (items (value depth) n now) → after_end_array now ≡ None
    → Grown opened first nodes now → Grown nodes now new r × (skip_value depth now ≡ Some r)
    → (length r ≤ n - 1) × (skip_items depth first ≡ left (items (value depth) (n - 1) r)) × Grown opened first new r
item_turn depth n opened nodes new first now r le so_far going g built =
    let less = skip_value-shorter depth now r built.1 in
    (omega arith, so_far ∙ skip_item (value depth) n now r (omega arith) going built.1, grown_trans opened first nodes now new r g built.0)

pub member_turn : (depth n : ℕ) (opened nodes named new : List Node) (first now s r : List Token) (k : Bor (List ℕ)) → length now ≤ n
    → skip_members depth first ≡ left (members (value depth) n now)
    → read_key now ≡ Some (Some k.now, s) → Grown opened first nodes now → named ≡ nodes ++ Key k ∷ [] → Grown named s new r × (skip_value depth s ≡ Some r)
    → (length r ≤ n - 1) × (skip_members depth first ≡ left (members (value depth) (n - 1) r)) × Grown opened first new r
member_turn depth n opened nodes named new first now s r k le so_far found g pushed built =
    let less = read_key-shorter now (Some k.now) s found in
    let lesser = skip_value-shorter depth s r built.1 in
    let one = grown_push nodes (Key k) named now s pushed (read_key_is now (Some k.now) s found) (λ all i. tt) in (
      omega arith,
      so_far ∙ skip_member (value depth) n now s r k.now (omega arith) found built.1,
      grown_trans opened first nodes now new r g (grown_trans nodes now named s new r one built.0),
    )

-- the bracket that opened at this place is closed
module _ (f : ℕ → Node) (t : Token) (opens : (a : ℕ) → node_token (f a) ≡ t)
    (link : (all : List Token) (i a : ℕ) → Passes all i a → LinkAt all i (f a)) (last : Node)
    (plain : (all : List Token) (i : ℕ) → LinkAt all i last) where
  closed : (depth at after : ℕ) (old opened nodes final : List Node) (first now r : List Token) → opened ≡ old ++ f 0 ∷ []
      → Grown opened first nodes now → now ≡ node_token last ∷ r → skip_value depth (t ∷ first) ≡ Some r
      → at ≡ length old → after ≡ length nodes + 1 → final ≡ slice_set (nodes ++ last ∷ []) at (f after) → Grown old (t ∷ first) final r
  closed depth at after old opened nodes final first now r e g closing skipped a b made =
      let full = nodes ++ last ∷ [] in
      let all = grown_trans opened first nodes now full r g (grown_push nodes last full now r refl closing plain) in
      let long : after ≡ length full = b ∙ sym (length-append nodes (last ∷ [])) in
      subst (λ x. Grown old (t ∷ first) x r) (sym (made ∙ ap₂ (λ i k. slice_set full i (f k)) a long))
      (grown_close f t opens link old opened first full r depth e all skipped)

pub items_closed : (depth n at after : ℕ) (old opened nodes final : List Node) (first now r : List Token) → opened ≡ old ++ Array 0 ∷ []
    → Grown opened first nodes now → now ≡ end_array ∷ r → length now ≤ n
    → skip_items depth first ≡ left (items (value depth) n now) → at ≡ length old → after ≡ length nodes + 1
    → final ≡ slice_set (nodes ++ EndArray ∷ []) at (Array after)
    → Grown old (begin_array ∷ first) final r × (skip_items depth first ≡ Some r)
unfolding value
items_closed depth n at after old opened nodes final first now r e g closing le so_far a b made =
    let skipped = so_far ∙ ap left (items_end (value depth) n now r le (ap after_end_array closing)) in
    let deeper : skip_value (suc depth) (begin_array ∷ first) ≡ Some r = left-parse_map _ _ ∙ skipped in (
      closed Array begin_array (λ k. refl) (λ all i k h. h) EndArray (λ all i. tt)
          (suc depth) at after old opened nodes final first now r e g closing deeper a b made,
      skipped,
    )

pub members_closed : (depth n at after : ℕ) (old opened nodes final : List Node) (first now r : List Token) → opened ≡ old ++ Object 0 ∷ []
    → Grown opened first nodes now → now ≡ end_object ∷ r → length now ≤ n
    → skip_members depth first ≡ left (members (value depth) n now) → at ≡ length old → after ≡ length nodes + 1
    → final ≡ slice_set (nodes ++ EndObject ∷ []) at (Object after)
    → Grown old (begin_object ∷ first) final r × (skip_members depth first ≡ Some r)
unfolding value
members_closed depth n at after old opened nodes final first now r e g closing le so_far a b made =
    let skipped = so_far ∙ ap left (members_end (value depth) n now r le (ap read_key closing)) in
    let deeper : skip_value (suc depth) (begin_object ∷ first) ≡ Some r = left-parse_map _ _ ∙ skipped in (
      closed Object begin_object (λ k. refl) (λ all i k h. h) EndObject (λ all i. tt)
          (suc depth) at after old opened nodes final first now r e g closing deeper a b made,
      skipped,
    )
