-- The keys of results name their tool, so the keys of a tool are those of its results.
use Rattle.std.proofs.Common.{◌≡◌, ℕ, suc, Bool, true, false, cond, bytes_eq, List, [], ◌∷◌, ◌++◌, Option, Some, None, refl, sym, ap, ◌∙◌, true≢false}
use Rattle.std.specs.Prelude.{filter}
use Rattle.std.proofs.lemmas.Slice.Eq.{bytes_eq-Decides}
use Rattle.sarif_model.specs.declared.record.Record.{Record}
use Rattle.sarif_match.specs.declared.tier.Tier.{Tier}
use Rattle.sarif_match.specs.Key.{key_of}
use Rattle.sarif_match.specs.KeyParts.{KeyParts, same_parts}
use Rattle.sarif_match.specs.Partners.{keyed_from, with_key}
use Rattle.sarif_match.proofs.NamedLemmas.{with_key-append}
use Rattle.sarif_match.proofs.PartsLemmas.{parts_same}
use Rattle.sarif_match_laws.proofs.Keyed.{tool_in, key_tool}
use Rattle.sarif_laws.proofs.Arranged.{of_tagged}

-- ---- the keys of numbered results

abbrev pub numbered : {Y : Type 0} → ℕ → List Y → List (ℕ × Y)
numbered n [] = []
numbered n (y ∷ ys) = (n, y) ∷ numbered (suc n) ys

abbrev pub tag_keyed : Tier → List (ℕ × Record) → List (ℕ × KeyParts)
tag_keyed tier [] = []
tag_keyed tier (x ∷ xs) = with_key x.0 (key_of x.1 tier) (tag_keyed tier xs)

pub numbered_keyed : (tier : Tier) (n : ℕ) (rs : List Record) → tag_keyed tier (numbered n rs) ≡ keyed_from tier n rs
numbered_keyed tier n [] = refl
numbered_keyed tier n (r ∷ rs) = ap (with_key n (key_of r tier)) (numbered_keyed tier (suc n) rs)

pub keyed_first : (tier : Tier) (n : ℕ) (xs ys : List Record) → (more : List (ℕ × KeyParts)) × (keyed_from tier n (xs ++ ys) ≡ keyed_from tier n xs ++ more)
keyed_first tier n [] ys = (keyed_from tier n ys, refl)
keyed_first tier n (x ∷ xs) ys =
    let rest = keyed_first tier (suc n) xs ys in
    (rest.0, ap (with_key n (key_of x tier)) rest.1 ∙ with_key-append n (key_of x tier) (keyed_from tier (suc n) xs) rest.0)

-- ---- with one key

abbrev pub tool_of : Record → List ℕ
tool_of r = r.tool

module _ (tier : Tier) (k : KeyParts) where
  abbrev has_key : ℕ × KeyParts → Bool
  has_key e = same_parts e.1 k

  same_rest : (n : ℕ) (o : Option KeyParts) (es fs : List (ℕ × KeyParts)) → filter has_key es ≡ filter has_key fs
      → filter has_key (with_key n o es) ≡ filter has_key (with_key n o fs)
  same_rest n None es fs is = is
  same_rest n (Some key) es fs is = ap (λ l. cond (same_parts key k) ((n, key) ∷ l) l) is

  other_tool : (n : ℕ) (r : Record) (o : Option KeyParts) (es : List (ℕ × KeyParts)) → key_of r tier ≡ o → bytes_eq r.tool (tool_in k) ≡ false
      → filter has_key (with_key n o es) ≡ filter has_key es
  other_tool n r None es is other = refl
  other_tool n r (Some key) es is other = by_test (same_parts key k) refl
    where
      by_test : (b : Bool) → same_parts key k ≡ b → cond b ((n, key) ∷ filter has_key es) (filter has_key es) ≡ filter has_key es
      by_test true same =
          let tool : r.tool ≡ tool_in k = sym (key_tool r tier key is) ∙ ap tool_in (parts_same key k same) in
          absurd (true≢false (sym ((bytes_eq-Decides r.tool (tool_in k)).1 tool) ∙ other))
      by_test false same = refl

  pub keys_of_tool : (xs : List (ℕ × Record)) → filter has_key (tag_keyed tier xs) ≡ filter has_key (tag_keyed tier (of_tagged tool_of (tool_in k) xs))
  keys_of_tool [] = refl
  keys_of_tool (x ∷ xs) = by_test (bytes_eq x.1.tool (tool_in k)) refl (keys_of_tool xs)
    where
      by_test : (b : Bool) → bytes_eq x.1.tool (tool_in k) ≡ b
          → filter has_key (tag_keyed tier xs) ≡ filter has_key (tag_keyed tier (of_tagged tool_of (tool_in k) xs))
          → filter has_key (tag_keyed tier (x ∷ xs))
          ≡ filter has_key (tag_keyed tier (cond b (x ∷ of_tagged tool_of (tool_in k) xs) (of_tagged tool_of (tool_in k) xs)))
      by_test true test rest = same_rest x.0 (key_of x.1 tier) (tag_keyed tier xs) (tag_keyed tier (of_tagged tool_of (tool_in k) xs)) rest
      by_test false test rest = other_tool x.0 x.1 (key_of x.1 tier) (tag_keyed tier xs) refl test ∙ rest
