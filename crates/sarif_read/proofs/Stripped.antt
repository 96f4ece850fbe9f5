-- What stripping leaves of a list of values and of a map's entries.
use Rattle.std.proofs.Common.{◌≡◌, ℕ, zero, suc, ◌<◌, ◌≤◌, List, [], ◌∷◌, ◌++◌, map, length, Bool, true, false, not, cond, IsTrue, if◌then◌else◌, slice_index_or, string_bytes, String, Global, refl, ap, ◌∙◌, arith}
use Rattle.std.specs.Map.Calls.{RetainsPairs}
use Rattle.serde_json.specs.Data.{Data, Members, member, depth, items_depth, members_depth}
use Rattle.serde_json.specs.declared.value.Value.{Value}
use Rattle.serde_json.specs.View.{view, items_of, items_view, members_view}
use Rattle.serde_json.proofs.Views.{Entry}
use Rattle.sarif_read.specs.Stripping.{is_fractional, stripped, stripped_items, stripped_members}

pub stripped_items_view : (vs : List Value) → stripped_items (items_view vs) ≡ items_of (map (λ v. stripped (view v)) vs)
stripped_items_view [] = refl
stripped_items_view (v ∷ vs) = ap (λ ds. Rattle.serde_json.specs.Data.item (stripped (view v)) ds) (stripped_items_view vs)

-- a value nests at most as deep as its array
pub item_depth_at : (vs : List Value) (i : ℕ) (v : Value) → i < length vs → depth (view (slice_index_or vs i v)) ≤ items_depth (items_view vs)
item_depth_at [] i v below = absurd (omega (arith, below))
item_depth_at (w ∷ vs) zero v below = omega arith
item_depth_at (w ∷ vs) (suc i) v below =
    let rest : depth (view (slice_index_or vs i v)) ≤ items_depth (items_view vs) = item_depth_at vs i v (omega (arith, below)) in omega (arith, rest)

-- a value nests at most as deep as its object
pub member_depth_at : (before : List Entry) (k : String Global) (v : Value) (after : List Entry)
    → depth (view v) ≤ members_depth (members_view (before ++ (k, v) ∷ after))
member_depth_at [] k v after = omega arith
member_depth_at (e ∷ before) k v after =
    let rest : depth (view v) ≤ members_depth (members_view (before ++ (k, v) ∷ after)) = member_depth_at before k v after in omega (arith, rest)

-- one entry, kept and stripped or dropped
kept_step : (fractional kept : Bool) (k : String Global) (w : Value) (d : Data) (rest : List Entry) (ms : Members)
    → kept ≡ not fractional → (IsTrue kept → view w ≡ d) → members_view rest ≡ ms
    → members_view (cond kept ((k, w) ∷ rest) rest) ≡ (if fractional then ms else member (string_bytes k) d ms)
kept_step true true k w d rest ms same stripped_so left = cc
kept_step true false k w d rest ms same stripped_so left = left
kept_step false true k w d rest ms same stripped_so left = rw (stripped_so refl, left) refl
kept_step false false k w d rest ms same stripped_so left = cc

pub stripped_from_retain : {F : Type 0} (T : F → String Global → Value → Bool → Value → F → Type 0)
    → ((f : F) (k : String Global) (v : Value) (b : Bool) (w : Value) (f' : F) → T f k v b w f'
    → (b ≡ not (is_fractional (view v))) × (IsTrue b → view w ≡ stripped (view v)))
    → (f : F) (es kept : List Entry) → RetainsPairs T f es kept → members_view kept ≡ stripped_members (members_view es)
stripped_from_retain T tells f [] kept is = ap members_view is
stripped_from_retain T tells f (e ∷ es) kept (b, w, f', rest, call, more, is) =
    let told = tells f e.0 e.1 b w f' call in
    ap members_view is ∙ kept_step (is_fractional (view e.1)) b e.0 w (stripped (view e.1)) rest
    (stripped_members (members_view es)) told.0 told.1 (stripped_from_retain T tells f' es rest more)
