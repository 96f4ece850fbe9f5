-- The matching of two lists, given that of the lists in reverse order.
use Rattle.std.proofs.Common.{◌≡◌, ◌≢◌, ℕ, ◌-◌, ◌<◌, ◌≤◌, zero, suc, Bool, true, false, ◌||◌, ⊎_elim, List, [], ◌∷◌, Option, Some, None, ◌==◌, length, map, option_map, reverse, slice_index_or, IfSome, refl, sym, ap, ◌∙◌, arith, eq-eqb}
use Rattle.std.specs.Option.{option_map_or}
use Rattle.std.proofs.lemmas.Bool.{ne_eqb, cases_lt}
use Rattle.std.proofs.lemmas.Bool.Decides.{eqb_tells}
use Rattle.std.proofs.lemmas.List.{get_or-reverse, length-map, length-reverse, reverse-append}
use Rattle.std.proofs.lemmas.List.Folds.{list_any-append}
use Rattle.std.proofs.Math.ListN.{get_or-eq_default}
use Rattle.sarif_model.specs.declared.record.Record.{Record}
use Rattle.sarif_match.specs.declared.tier.Tier.{Tier}
use Rattle.sarif_evidence.specs.Seen.{seen}
use Rattle.sarif_match.specs.Partners.{from_end, is_taken, partners_after, seen_from_end, turned}
use Rattle.sarif_match.specs.Internal.Turned.{AreBelow}
use Rattle.sarif_match.proofs.LawLemmas.{partner_below}

all_below : (count : ℕ) (partners : List (Option ℕ)) → ((i j : ℕ) → slice_index_or partners i None ≡ Some j → j < count) → AreBelow count partners
all_below count [] each = tt
all_below count (o ∷ partners) each = (first o (λ j is. each 0 j is), all_below count partners (λ i j is. each (suc i) j is))
  where
    first : (o : Option ℕ) → ((j : ℕ) → o ≡ Some j → j < count) → IfSome o (λ j. j < count)
    first None each = tt
    first (Some j) each = each j refl

-- matches are baseline results
pub partners_below : (current baseline : List Record) (tiers : List Tier) → AreBelow (length baseline) (partners_after current baseline tiers)
partners_below current baseline tiers =
    all_below (length baseline) (partners_after current baseline tiers) (λ i j found. partner_below current baseline tiers i j found)

pub length-seen : (rs : List Record) → length (seen_from_end rs) ≡ length rs
length-seen rs = length-reverse (map seen rs) ∙ length-map rs seen

abbrev test_of : ℕ → Option ℕ → Bool
test_of j o = option_map_or (λ (t : ℕ). t == j) o false

swap_or : (a b : Bool) → a || (b || false) ≡ b || a
swap_or true true = refl
swap_or true false = refl
swap_or false true = refl
swap_or false false = refl

module _ (count j k : ℕ) (same : (t : ℕ) → t < count → (from_end count t == j) ≡ (t == k)) where
  one_turned : (o : Option ℕ) → IfSome o (λ t. t < count) → test_of j (option_map (from_end count) o) ≡ test_of k o
  one_turned None below = refl
  one_turned (Some t) below = same t below

  -- the baseline results that are matched after the turn
  taken_turned : (partners : List (Option ℕ)) → AreBelow count partners → is_taken (turned count partners) j ≡ is_taken partners k
  taken_turned [] below = refl
  taken_turned (o ∷ partners) below =
      let f = option_map (from_end count) in
      ap (λ (l : List (Option ℕ)). is_taken l j) (reverse-append (f o ∷ []) (map f partners))
      ∙ list_any-append (test_of j) (turned count partners) (f o ∷ [])
      ∙ ap (λ (b : Bool). b || (test_of j (f o) || false)) (taken_turned partners below.1)
      ∙ swap_or (is_taken partners k) (test_of j (f o))
      ∙ ap (λ (b : Bool). b || is_taken partners k) (one_turned o below.0)

within_same : (count j t : ℕ) → j < count → t < count → (from_end count t == j) ≡ (t == (from_end count j))
within_same count j t within below = ⊎_elim here there (eqb_tells t (from_end count j))
  where
    here : ((t == from_end count j) ≡ true) × (t ≡ from_end count j) → (from_end count t == j) ≡ (t == from_end count j)
    here e = let at : t ≡ count - 1 - j = e.1 in let back : count - 1 - t ≡ j = omega arith in eq-eqb (from_end count t) j back ∙ sym e.0

    there : ((t == from_end count j) ≡ false) × (t ≢ from_end count j) → (from_end count t == j) ≡ (t == from_end count j)
    there e = ne_eqb (from_end count t) j (λ back. e.1 (let at : count - 1 - t ≡ j = back in omega arith)) ∙ sym e.0

past_same : (count j t : ℕ) → count ≤ j → t < count → (from_end count t == j) ≡ (t == j)
past_same count j t past below =
    ne_eqb (from_end count t) j (λ same. (let at : count - 1 - t ≡ j = same in omega arith)) ∙ sym (ne_eqb t j (λ same. omega (arith, same)))

pub taken_within : (count j : ℕ) (partners : List (Option ℕ)) → j < count → AreBelow count partners
    → is_taken (turned count partners) j ≡ is_taken partners (from_end count j)
taken_within count j partners within below =
    taken_turned count j (from_end count j) (λ t small. within_same count j t within small) partners below

-- the marks in reverse order
pub marks_turned : (partners : List (Option ℕ)) (marks : List Bool) → AreBelow (length marks) partners
    → ((j : ℕ) → slice_index_or marks j false ≡ is_taken partners j) → (j : ℕ)
    → slice_index_or (reverse marks) j false ≡ is_taken (turned (length marks) partners) j
marks_turned partners marks below same j = ⊎_elim within past (cases_lt j (length marks))
  where
    within : j < length marks → slice_index_or (reverse marks) j false ≡ is_taken (turned (length marks) partners) j
    within lt =
        get_or-reverse marks j false lt ∙ same (from_end (length marks) j) ∙ sym (taken_within (length marks) j partners lt below)

    past : length marks ≤ j → slice_index_or (reverse marks) j false ≡ is_taken (turned (length marks) partners) j
    past le =
        let longer : length (reverse marks) ≤ j = omega (arith, length-reverse marks) in
        get_or-eq_default (reverse marks) false longer ∙ sym (get_or-eq_default marks false le) ∙ same j
        ∙ sym (taken_turned (length marks) j j (λ t small. past_same (length marks) j t le small) partners below)

slice_index_or-option_map : (f : ℕ → ℕ) (xs : List (Option ℕ)) (i : ℕ) → slice_index_or (map (option_map f) xs) i None ≡ option_map f (slice_index_or xs i None)
slice_index_or-option_map f [] i = refl
slice_index_or-option_map f (x ∷ xs) zero = refl
slice_index_or-option_map f (x ∷ xs) (suc i) = slice_index_or-option_map f xs i

-- a match after the turn
pub partner_turned : (count i : ℕ) (partners : List (Option ℕ)) → i < length partners
    → slice_index_or (turned count partners) i None
    ≡ option_map (from_end count) (slice_index_or partners (from_end (length partners) i) None)
partner_turned count i partners within =
    let f = option_map (from_end count) in
    let counted : length (map f partners) ≡ length partners = length-map partners f in
    get_or-reverse (map f partners) i None (omega (arith, counted))
    ∙ ap (λ (n : ℕ). slice_index_or (map f partners) (n - 1 - i) None) counted
    ∙ slice_index_or-option_map (from_end count) partners (from_end (length partners) i)
