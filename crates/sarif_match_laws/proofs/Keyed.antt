-- The keys of results name their tool.
use Rattle.std.proofs.Common.{◌≡◌, ℕ, Bool, true, false, cond, List, [], ◌∷◌, Option, Some, None, option_map, refl, sym, ap, ◌∙◌}
use Rattle.std.specs.Prelude.{filter, is_some}
use Rattle.std.proofs.lemmas.Option.{same_Some}
use Rattle.sarif_model.specs.declared.record.Record.{Record}
use Rattle.sarif_model.specs.declared.region.Region.{Region}
use Rattle.sarif_match.specs.declared.tier.Tier.{Tier}
use Rattle.sarif_match.specs.declared.tier.Tier.TheVariants.{Guid, Same, SameText, FingerprintHere, Fingerprint, PartialHere, PartialMoved, PlaceText, Place, PlaceLeft}
use Rattle.sarif_match.specs.Key.{group_of, is_unnamed, key_of, value_of}
use Rattle.sarif_evidence.specs.EqualParts.{is_empty}
use Rattle.sarif_match.specs.KeyParts.{KeyParts, guid_parts, fingerprint_here_parts, fingerprint_parts, partial_here_parts, partial_moved_parts, place_left_parts, place_parts, place_text_parts, region_parts, text_parts}

-- ---- the tool of a key

abbrev pub tool_in : KeyParts → List ℕ
tool_in (guid_parts t g) = t
tool_in (fingerprint_parts t n v) = t
tool_in (partial_here_parts t r p m) = t
tool_in (partial_moved_parts t r m) = t
tool_in (place_parts t r p m) = t
tool_in (region_parts g f p s r) = g.tool
tool_in (text_parts g f p s) = g.tool
tool_in (fingerprint_here_parts g n v) = g.tool
tool_in (place_text_parts g s) = g.tool
tool_in (place_left_parts g) = g.tool

by_value : {X : Type 0} (f : X → KeyParts) (tool : List ℕ) (o : Option X) (k : KeyParts) → ((x : X) → tool_in (f x) ≡ tool) → option_map f o ≡ Some k
    → tool_in k ≡ tool
by_value f tool None k each is = let never : ⊥ = cc in absurd never
by_value f tool (Some x) k each is = ap tool_in (sym (same_Some (f x) k is)) ∙ each x

unless : (b : Bool) (own k : KeyParts) (tool : List ℕ) → tool_in own ≡ tool → cond b None (Some own) ≡ Some k → tool_in k ≡ tool
unless true own k tool of is = let never : ⊥ = cc in absurd never
unless false own k tool of is = ap tool_in (sym (same_Some own k is)) ∙ of

provided : (b : Bool) (own k : KeyParts) (tool : List ℕ) → tool_in own ≡ tool → cond b (Some own) None ≡ Some k → tool_in k ≡ tool
provided true own k tool of is = ap tool_in (sym (same_Some own k is)) ∙ of
provided false own k tool of is = let never : ⊥ = cc in absurd never

without : (b : Bool) (o : Option KeyParts) (k : KeyParts) (tool : List ℕ) → ((j : KeyParts) → o ≡ Some j → tool_in j ≡ tool) → cond b None o ≡ Some k
    → tool_in k ≡ tool
without true o k tool each is = let never : ⊥ = cc in absurd never
without false o k tool each is = each k is

pub key_tool : (r : Record) (tier : Tier) (k : KeyParts) → key_of r tier ≡ Some k → tool_in k ≡ r.tool
key_tool r Guid k is = by_value (λ guid. guid_parts r.tool guid) r.tool r.guid k (λ x. refl) is
key_tool r (Fingerprint name) k is = by_value (λ value. fingerprint_parts r.tool name value) r.tool (value_of name r.full) k (λ x. refl) is
key_tool r PartialHere k is = unless (is_empty r.partial) (partial_here_parts r.tool r.rule_id r.place r.partial) k r.tool refl is
key_tool r PartialMoved k is = unless (is_empty r.partial) (partial_moved_parts r.tool r.rule_id r.partial) k r.tool refl is
key_tool r Same k is =
    let made : Region → KeyParts = λ region. region_parts (group_of r) r.full r.partial r.snippet region in
    without (is_some r.guid) (option_map made r.region) k r.tool (λ j same. by_value made r.tool r.region j (λ x. refl) same) is
key_tool r SameText k is =
    let made : List ℕ → KeyParts = λ snippet. text_parts (group_of r) r.full r.partial snippet in
    without (is_some r.guid) (option_map made r.snippet) k r.tool (λ j same. by_value made r.tool r.snippet j (λ x. refl) same) is
key_tool r (FingerprintHere name) k is =
    by_value (λ value. fingerprint_here_parts (group_of r) name value) r.tool (value_of name r.full) k (λ x. refl) is
key_tool r PlaceText k is =
    let made : List ℕ → KeyParts = λ snippet. place_text_parts (group_of r) snippet in
    without (is_some r.guid) (option_map made r.snippet) k r.tool (λ j same. by_value made r.tool r.snippet j (λ x. refl) same) is
key_tool r PlaceLeft k is = unless (is_some r.guid) (place_left_parts (group_of r)) k r.tool refl is
key_tool r Place k is = provided (is_unnamed r) (place_parts r.tool r.rule_id r.place r.message) k r.tool refl is

-- ---- lists

pub filter_swap : {X : Type 0} (p q : X → Bool) (xs : List X) → filter p (filter q xs) ≡ filter q (filter p xs)
filter_swap p q [] = refl
filter_swap p q (x ∷ xs) = by_tests (p x) (q x) refl refl (filter_swap p q xs)
  where
    by_tests : (a b : Bool) → p x ≡ a → q x ≡ b → filter p (filter q xs) ≡ filter q (filter p xs)
        → filter p (cond b (x ∷ filter q xs) (filter q xs)) ≡ filter q (cond a (x ∷ filter p xs) (filter p xs))
    by_tests true true first second rest =
        ap (λ c. cond c (x ∷ filter p (filter q xs)) (filter p (filter q xs))) first ∙ ap (λ l. x ∷ l) rest
        ∙ sym (ap (λ c. cond c (x ∷ filter q (filter p xs)) (filter q (filter p xs))) second)
    by_tests true false first second rest = rest ∙ sym (ap (λ c. cond c (x ∷ filter q (filter p xs)) (filter q (filter p xs))) second)
    by_tests false true first second rest = ap (λ c. cond c (x ∷ filter p (filter q xs)) (filter p (filter q xs))) first ∙ rest
    by_tests false false first second rest = rest
