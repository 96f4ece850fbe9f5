-- The members of an entry's object, in order, as a loop goes through them.
use Rattle.std.proofs.Common.{◌≡◌, ℕ, ◌-◌, ◌≤◌, List, [], ◌∷◌, map, drop, length, nat_eq, refl, ◌∙◌, arith, Bor}
use Rattle.std.proofs.lemmas.Bool.Decides.{nat_tests}
use Rattle.std.proofs.lemmas.List.{length-drop}
use Rattle.serde_json.specs.Data.{no_members}
use Rattle.sarif_entries.specs.Object.{are_just}

-- strings for which no member is left
none_left : (texts : List (Bor (List ℕ) × Bor (List ℕ))) → are_just (map (λ p. (p.0.now, p.1.now)) texts) no_members ≡ nat_eq (length texts) 0
none_left [] = refl
none_left (p ∷ ps) = grind (arith, nat_tests)

same_end : (left at all : ℕ) → at ≤ all → left ≡ all - at → nat_eq left 0 ≡ nat_eq at all
same_end left at all within is = grind (arith, nat_tests)

pub at_end : (texts : List (Bor (List ℕ) × Bor (List ℕ))) (at : ℕ) → at ≤ length texts
    → are_just (map (λ p. (p.0.now, p.1.now)) (drop at texts)) no_members ≡ nat_eq at (length texts)
at_end texts at within =
    none_left (drop at texts) ∙ same_end (length (drop at texts)) at (length texts) within (length-drop at texts)
