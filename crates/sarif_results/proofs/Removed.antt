-- A map without an entry, and its members without those of that name.
use Rattle.std.proofs.Common.{◌≡◌, ℕ, Bool, true, false, cond, List, [], ◌∷◌, Option, Some, None, nat_cmp, is_eq, bytes_eq, string_bytes, if◌then◌else◌, String, Global, true≢false, refl, sym, ap}
use Rattle.std.proofs.lemmas.Map.Text.{is_eq-slice_cmp}
use Rattle.std.specs.Cmp.Lexicographic.{slice_cmp}
use Rattle.std.specs.Map.{lookup, remove_entry}
use Rattle.std.specs.BTreeMap.{is_at}
use Rattle.serde_json.specs.Data.{Data, Members, member}
use Rattle.serde_json.specs.declared.value.Value.{Value}
use Rattle.serde_json.specs.View.{view, members_view}
use Rattle.serde_json.proofs.Views.{Entry}
use Rattle.json_parts.specs.Without.{without}

-- a name that is not there: one more entry
stays : (here same : Bool) (v : Value) (rest : List Entry) (found : Option Value) (k : List ℕ) (d : Data) (ms ns : Members)
    → here ≡ same → cond here (Some v) found ≡ None → (found ≡ None → ns ≡ ms)
    → (if same then ns else member k d ns) ≡ member k d ms
stays true same v rest found k d ms ns is none later = absurd (some≢none none) where
  some≢none : {A : Type 0} {x : A} → Some x ≡ None → ⊥
  some≢none e = cc
stays false true v rest found k d ms ns is none later = cc
stays false false v rest found k d ms ns is none later = ap (λ m. member k d m) (later none)

gone : (name : List ℕ) (es : List Entry) → lookup (is_at (λ k. slice_cmp nat_cmp name (string_bytes k))) es ≡ None
    → without name (members_view es) ≡ members_view es
gone name [] none = refl
gone name (e ∷ es) none =
    stays (is_eq (slice_cmp nat_cmp name (string_bytes e.0))) (bytes_eq name (string_bytes e.0)) e.1 es _ (string_bytes e.0) (view e.1)
    (members_view es) (without name (members_view es)) (is_eq-slice_cmp name (string_bytes e.0)) none (gone name es)

-- removing a member by its name, one entry at a time
drops : (here same : Bool) (e : Entry) (es rest : List Entry) (name k : List ℕ) (d : Data)
    → here ≡ same
    → (here ≡ true → members_view es ≡ without name (members_view es))
    → (here ≡ false → members_view rest ≡ without name (members_view es))
    → k ≡ string_bytes e.0 → d ≡ view e.1
    → members_view (cond here es (e ∷ rest)) ≡ (if same then without name (members_view es) else member k d (without name (members_view es)))
drops true true e es rest name k d is first later key value = first refl
drops true false e es rest name k d is first later key value = absurd (true≢false is)
drops false true e es rest name k d is first later key value = absurd (true≢false (sym is))
drops false false e es rest name k d is first later key value =
    rw (key, value) (ap (λ ms. member (string_bytes e.0) (view e.1) ms) (later refl))

pub view-remove_entry : (name : List ℕ) (es : List Entry)
    → lookup (is_at (λ k. slice_cmp nat_cmp name (string_bytes k))) (remove_entry (is_at (λ k. slice_cmp nat_cmp name (string_bytes k))) es) ≡ None
    → members_view (remove_entry (is_at (λ k. slice_cmp nat_cmp name (string_bytes k))) es) ≡ without name (members_view es)
view-remove_entry name [] none = refl
view-remove_entry name (e ∷ es) none =
    let test : String Global → Bool = is_at (λ k. slice_cmp nat_cmp name (string_bytes k)) in
    drops (test e.0) (bytes_eq name (string_bytes e.0)) e es (remove_entry test es) name (string_bytes e.0) (view e.1) (is_eq-slice_cmp name (string_bytes e.0))
    (λ here. sym (gone name es (rw here at none)))
    (λ there. view-remove_entry name es (rw there at (rw there at none)))
    refl refl
