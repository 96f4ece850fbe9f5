-- What the tokens of a value that is read begin with.
use Rattle.std.proofs.Common.{◌≡◌, ℕ, ◌≤◌, List, Option, Some, None, option_map, option_and_then, unwrap_or, Bool, true, false, cond, bytes_eq, true≢false, refl, sym, ap, ◌∙◌, subst, arith}
use Rattle.std.specs.Prelude.{⊤}
use Rattle.std.proofs.lemmas.Slice.Eq.{bytes_eq-Decides}
use Rattle.json.specs.Token.{Token}
use Rattle.json.specs.Json as json
use Rattle.json.specs.Json.{Json, value}
use Rattle.json.specs.Find as look
use Rattle.json.specs.Find.{BeginsWith, later_or}
use Rattle.json.specs.Tree.{depth, members_depth, HasNumbers}
use Rattle.json.proofs.Nesting.{value-depth}
use Rattle.serde_json.specs.Data.{Num, Data, null, boolean, number, string, array, object, Items, Members, no_members, member, put}
use Rattle.serde_json.specs.Find.{get, get_member, as_str}
use Rattle.serde_json.specs.Read.{max_depth, number_of, of_json, of_items, of_members}
use Rattle.serde_json.proofs.Views.{get_member-put, get_member-put_other}
use Rattle.json_parts.specs.Indexed.{data_of, IsReadable}
use Rattle.json_parts.specs.Internal.Walking.{depth_of, named_of, put_all}
use Rattle.json_parts.proofs.Deeper.{value_at}

abbrev or_else : {A : Type 0} → A → Option A → A
or_else d None = d
or_else d (Some a) = a

abbrev IsNone : {A : Type 0} → Option A → Type 0
IsNone None = ⊤
IsNone (Some a) = ⊥

pub not_found : {A P : Type 0} (a : A) → None ≡ Some a → P
not_found a e = absurd (subst IsNone e tt)

pub Some_inj : {A : Type 0} (a b : A) → Some a ≡ Some b → a ≡ b
Some_inj a b e = ap (or_else a) e

pub mapped_some : {A B : Type 0} (f : A → B) (o : Option A) (b : B) → option_map f o ≡ Some b → (a : A) × (o ≡ Some a) × (f a ≡ b)
mapped_some f None b e = not_found b e
mapped_some f (Some a) b e = (a, refl, Some_inj (f a) b e)

pub and_then_some : {A B : Type 0} (f : A → Option B) (o : Option A) (b : B) → option_and_then f o ≡ Some b → (a : A) × (o ≡ Some a) × (f a ≡ Some b)
and_then_some f None b e = not_found b e
and_then_some f (Some a) b e = (a, refl, e)

-- ---- tokens and data

data_is : (ts r : List Token) (j : Json) (d : Data) → value max_depth ts ≡ Some (j, r) → of_json j ≡ Some d → data_of ts ≡ d
unfolding data_of
data_is ts r j d is of = ap (λ o. unwrap_or (option_and_then (λ p. of_json p.0) o) null) is ∙ ap (λ o. unwrap_or o null) of

depth_is : (ts r : List Token) (j : Json) → value max_depth ts ≡ Some (j, r) → depth_of ts ≡ depth j
unfolding depth_of
depth_is ts r j is = ap (λ o. unwrap_or (option_map (λ p. depth p.0) o) 0) is

pub known : (ts : List Token) → IsReadable ts
    → (j : Json) × BeginsWith ts j × (depth j ≤ max_depth) × (of_json j ≡ Some (data_of ts)) × (depth_of ts ≡ depth j) × HasNumbers j
known ts (j, r, d, is, of, numbers) =
    (j, (max_depth, r, is), value-depth max_depth ts r j is, of ∙ ap Some (sym (data_is ts r j d is of)), depth_is ts r j is, numbers)

pub found : (ts : List Token) (j : Json) (d : Data) → BeginsWith ts j → depth j ≤ max_depth → of_json j ≡ Some d → HasNumbers j
    → IsReadable ts × (data_of ts ≡ d) × (depth_of ts ≡ depth j)
found ts j d (n, r, is) le of numbers = let at = value_at n max_depth ts r j is le in ((j, r, d, at, of, numbers), data_is ts r j d at of, depth_is ts r j at)

-- ---- the data of a value, by its kind

named_twice : (k : List ℕ) (d : Data) (found : Members) (o : Option Members)
    → option_map (λ ms. put_all ms (put k d found)) o ≡ option_map (λ ms. put_all ms found) (option_map (member k d) o)
named_twice k d found None = refl
named_twice k d found (Some ms) = refl

named_turn : (k : List ℕ) (ms : json.Members) (found : Members)
    → ((more : Members) → of_members ms more ≡ option_map (λ ns. put_all ns more) (named_of ms)) → (o : Option Data)
    → option_and_then (λ d. of_members ms (put k d found)) o
    ≡ option_map (λ ns. put_all ns found) (option_and_then (λ d. option_map (member k d) (named_of ms)) o)
named_turn k ms found again None = refl
named_turn k ms found again (Some d) = again (put k d found) ∙ named_twice k d found (named_of ms)

pub of_members-named : (ms : json.Members) (found : Members) → of_members ms found ≡ option_map (λ ns. put_all ns found) (named_of ms)
of_members-named json.no_members found = refl
of_members-named (json.member k j ms) found = named_turn k ms found (of_members-named ms) (of_json j)

abbrev pub Kind : Json → Data → Type 0
Kind json.null d = null ≡ d
Kind (json.boolean b) d = boolean b ≡ d
Kind (json.number s) d = (n : Num) × (number_of s ≡ Some n) × (number n ≡ d)
Kind (json.string s) d = string s ≡ d
Kind (json.array js) d = (ds : Items) × (of_items js ≡ Some ds) × (array ds ≡ d)
Kind (json.object ms) d = (ns : Members) × (named_of ms ≡ Some ns) × (object (put_all ns no_members) ≡ d)

pub kind : (j : Json) (d : Data) → of_json j ≡ Some d → Kind j d
kind json.null d e = Some_inj _ _ e
kind (json.boolean b) d e = Some_inj _ _ e
kind (json.number s) d e = mapped_some number (number_of s) d e
kind (json.string s) d e = Some_inj _ _ e
kind (json.array js) d e = mapped_some array (of_items js) d e
kind (json.object ms) d e =
    let all = mapped_some object (of_members ms no_members) d e in
    let named = mapped_some (λ ns. put_all ns no_members) (named_of ms) all.0 (sym (of_members-named ms no_members) ∙ all.1) in
    (named.0, named.1, ap object named.2 ∙ all.2)

pub as_str_is : (j : Json) (d : Data) → Kind j d → look.as_str j ≡ as_str d
as_str_is json.null d k = ap as_str k
as_str_is (json.boolean b) d k = ap as_str k
as_str_is (json.number s) d k = ap as_str k.2
as_str_is (json.string s) d k = ap as_str k
as_str_is (json.array js) d k = ap as_str k.2
as_str_is (json.object ms) d k = ap as_str k.2

-- ---- a member

abbrev pub Found : ℕ → Option Json → Option Data → Option Data → Type 0
Found n None before now = now ≡ before
Found n (Some j) before now = (d : Data) × (of_json j ≡ Some d) × (now ≡ Some d) × (depth j ≤ n)

module _ (name : List ℕ) (n : ℕ) where
  member_found : (k : List ℕ) (j : Json) (d : Data) (found : Members) (now : Option Data) → of_json j ≡ Some d → depth j ≤ n
      → (o : Option Json) → Found n o (get_member name (put k d found)) now
      → (b : Bool) → bytes_eq k name ≡ b → Found n (later_or o (cond b (Some j) None)) (get_member name found) now
  member_found k j d found now of le (Some i) later b is = later
  member_found k j d found now of le None later true is =
      let same = (bytes_eq-Decides k name).0 is in (d, of, later ∙ ap (λ x. get_member name (put x d found)) same ∙ get_member-put name d found, le)
  member_found k j d found now of le None later false is =
      later ∙ get_member-put_other name k d found (λ same. true≢false (sym ((bytes_eq-Decides k name).1 (sym same)) ∙ is))

  members_found : (ms : json.Members) (ns found : Members) → named_of ms ≡ Some ns → members_depth ms ≤ n
      → Found n (look.get_member name ms) (get_member name found) (get_member name (put_all ns found))
  members_found json.no_members ns found e le = ap (λ x. get_member name (put_all x found)) (sym (Some_inj _ _ e))
  members_found (json.member k j ms) ns found e le =
      let first = and_then_some (λ d. option_map (member k d) (named_of ms)) (of_json j) ns e in
      let more = mapped_some (member k first.0) (named_of ms) ns first.2 in
      subst (λ x. Found n (look.get_member name (json.member k j ms)) (get_member name found) (get_member name (put_all x found))) more.2
      (member_found k j first.0 found _ first.1 (omega arith) (look.get_member name ms)
      (members_found ms more.0 (put k first.0 found) more.1 (omega arith)) _ refl)

  pub get_found : (j : Json) (d : Data) → Kind j d → depth j ≤ n → Found n (look.get name j) None (get name d)
  get_found json.null d k le = ap (get name) (sym k)
  get_found (json.boolean b) d k le = ap (get name) (sym k)
  get_found (json.number s) d k le = ap (get name) (sym k.2)
  get_found (json.string s) d k le = ap (get name) (sym k)
  get_found (json.array js) d k le = ap (get name) (sym k.2)
  get_found (json.object ms) d k le = subst (λ x. Found n (look.get_member name ms) None (get name x)) k.2 (members_found ms k.0 no_members k.1 (omega arith))
