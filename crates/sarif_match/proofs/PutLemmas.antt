-- The effect of one more pair.
use Rattle.std.proofs.Common.{◌≡◌, ◌≢◌, ℕ, ◌<◌, zero, suc, Bool, true, false, cond, ◌||◌, List, [], ◌∷◌, Option, Some, None, ◌==◌, length, is_some, slice_index_or, slice_set, replicate, refl, sym, ap, ◌∙◌, arith, ⊎_elim}
use Rattle.std.proofs.Math.ListN.{length-set}
use Rattle.std.proofs.lemmas.List.{get_or-set_same, get_or-set_other, length-replicate}
use Rattle.std.proofs.lemmas.Bool.{true≢false}
use Rattle.std.proofs.lemmas.Bool.Decides.{eqb_tells}
use Rattle.std.specs.Option.{option_map_or}
use Rattle.sarif_match.specs.declared.progress.Progress.{Progress}
use Rattle.sarif_match.specs.Partners.{has_partner, is_taken}
use Rattle.sarif_match.specs.Internal.Progress.{IsSound}
use Rattle.sarif_match.proofs.SortedLemmas.{or_swap}

-- a list at each place after a write
pub slice_index_or-slice_set : {X : Type 0} (xs : List X) (i q : ℕ) (v d : X) → i < length xs
    → slice_index_or (slice_set xs i v) q d ≡ cond (i == q) v (slice_index_or xs q d)
slice_index_or-slice_set {X} xs i q v d within = ⊎_elim here there (eqb_tells i q)
  where
    here : ((i == q) ≡ true) × (i ≡ q) → slice_index_or (slice_set xs i v) q d ≡ cond (i == q) v (slice_index_or xs q d)
    here e = ap (λ (p : ℕ). slice_index_or (slice_set xs i v) p d) (sym e.1) ∙ get_or-set_same xs i v d within
        ∙ sym (ap (λ (b : Bool). cond b v (slice_index_or xs q d)) e.0)

    there : ((i == q) ≡ false) × (i ≢ q) → slice_index_or (slice_set xs i v) q d ≡ cond (i == q) v (slice_index_or xs q d)
    there e = get_or-set_other xs i q v d (λ same. e.1 (sym same)) ∙ sym (ap (λ (b : Bool). cond b v (slice_index_or xs q d)) e.0)

pub has_partner-put : (partners : List (Option ℕ)) (i j q : ℕ) → i < length partners
    → has_partner (slice_set partners i (Some j)) q ≡ cond (i == q) true (has_partner partners q)
has_partner-put partners i j q within =
    ap is_some (slice_index_or-slice_set partners i q (Some j) None within) ∙ at (i == q) (slice_index_or partners q None)
  where
    at : (b : Bool) (o : Option ℕ) → is_some (cond b (Some j) o) ≡ cond b true (is_some o)
    at true o = refl
    at false o = refl

pub is_taken-put : (partners : List (Option ℕ)) (i j q : ℕ) → i < length partners → has_partner partners i ≡ false
    → is_taken (slice_set partners i (Some j)) q ≡ (j == q) || is_taken partners q
is_taken-put [] i j q within none = absurd (omega arith)
is_taken-put (None ∷ partners) zero j q within none = refl
is_taken-put (Some x ∷ partners) zero j q within none = absurd (true≢false none)
is_taken-put (x ∷ partners) (suc i) j q within none =
    let test = option_map_or (λ (taken : ℕ). taken == q) x false in
    let rest : is_taken (slice_set partners i (Some j)) q ≡ (j == q) || is_taken partners q = is_taken-put partners i j q (omega arith) none in
    ap (λ (b : Bool). test || b) rest ∙ or_swap test (j == q) (is_taken partners q)

cond-or : (b c : Bool) → cond b true c ≡ b || c
cond-or true c = refl
cond-or false c = refl

-- the marks after one more pair
pub IsSound-put : (n m : ℕ) (old new : Progress) (i j : ℕ) → IsSound n m old → i < length old.partners.items
    → has_partner old.partners.items i ≡ false → j < m → new.partners.items ≡ slice_set old.partners.items i (Some j)
    → new.paired.items ≡ slice_set old.paired.items i true → new.taken.items ≡ slice_set old.taken.items j true → IsSound n m new
IsSound-put n m old new i j sound in_current none in_baseline partners paired taken =
    let counted : length old.paired.items ≡ length old.partners.items = sound.paired_count ∙ sym sound.partner_count in
    record {
      paired = λ q.
          ap (λ (xs : List Bool). slice_index_or xs q false) paired
          ∙ slice_index_or-slice_set old.paired.items i q true false (omega (arith, counted)) ∙ ap (cond (i == q) true) (sound.paired q)
          ∙ sym (has_partner-put old.partners.items i j q in_current) ∙ sym (ap (λ (ps : List (Option ℕ)). has_partner ps q) partners);
      taken = λ q.
          ap (λ (xs : List Bool). slice_index_or xs q false) taken
          ∙ slice_index_or-slice_set old.taken.items j q true false (omega (arith, sound.taken_count))
          ∙ ap (cond (j == q) true) (sound.taken q) ∙ cond-or (j == q) (is_taken old.partners.items q)
          ∙ sym (is_taken-put old.partners.items i j q in_current none) ∙ sym (ap (λ (ps : List (Option ℕ)). is_taken ps q) partners);
      partner_count = ap length partners ∙ length-set old.partners.items i (Some j) ∙ sound.partner_count;
      paired_count = ap length paired ∙ length-set old.paired.items i true ∙ sound.paired_count;
      taken_count = ap length taken ∙ length-set old.taken.items j true ∙ sound.taken_count;
    }

nobody_paired : (n i : ℕ) → slice_index_or (replicate n false) i false ≡ has_partner (replicate n None) i
nobody_paired zero i = refl
nobody_paired (suc n) zero = refl
nobody_paired (suc n) (suc i) = nobody_paired n i

nobody_marked : (n j : ℕ) → slice_index_or (replicate n false) j false ≡ false
nobody_marked zero j = refl
nobody_marked (suc n) zero = refl
nobody_marked (suc n) (suc j) = nobody_marked n j

pub nobody_taken : (n j : ℕ) → is_taken (replicate n None) j ≡ false
nobody_taken zero j = refl
nobody_taken (suc n) j = nobody_taken n j

-- the marks before the first pair
pub IsSound-new : (n m : ℕ) (new : Progress) → new.partners.items ≡ replicate n None → new.paired.items ≡ replicate n false
    → new.taken.items ≡ replicate m false → IsSound n m new
IsSound-new n m new partners paired taken = record {
  paired = λ i. ap (λ (xs : List Bool). slice_index_or xs i false) paired ∙ nobody_paired n i ∙ sym (ap (λ (ps : List (Option ℕ)). has_partner ps i) partners);
  taken = λ j. ap (λ (xs : List Bool). slice_index_or xs j false) taken ∙ nobody_marked m j ∙ sym (nobody_taken n j)
      ∙ sym (ap (λ (ps : List (Option ℕ)). is_taken ps j) partners);
  partner_count = ap length partners ∙ length-replicate n None;
  paired_count = ap length paired ∙ length-replicate n false;
  taken_count = ap length taken ∙ length-replicate m false;
}
