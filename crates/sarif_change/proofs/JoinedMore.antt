-- Keys are alike where the parts of one end with those of the other.
use Rattle.std.proofs.Common.{◌≡◌, ◌<◌, ◌≤◌, ◌+◌, ℕ, Bool, true, false, not, ◌&&◌, List, [], ◌∷◌, ◌++◌, length, take, refl, sym, ap, ◌∙◌, arith, if◌then◌else◌}
use Rattle.std.proofs.lemmas.Bool.{and_parts}
use Rattle.std.specs.Prelude.{◌==◌, bytes_eq}
use Rattle.std.specs.List.{list_all}
use Rattle.std.proofs.Math.Seq.{take-append_seam}
use Rattle.std.proofs.lemmas.List.{append_assoc, length-append}
use Rattle.std.proofs.lemmas.Bool.Decides.{nat_tests}
use Rattle.sarif_diff.specs.Lines.{first_line}
use Rattle.sarif_diff.specs.Pieces.{pieces_at, with_byte}
use Rattle.sarif_change.specs.Parts.{pieces_of, parts_after_up, parts_of, is_up, is_here, is_folder, turned, end_alike}
use Rattle.sarif_change.specs.Internal.Keys.{joined, alike, has_no_slash}
use Rattle.sarif_change.proofs.KeysMore.{meet, alike_is}

and_both : (a b c : Bool) → (a && (b && c)) ≡ ((a && b) && c)
and_both true b c = refl
and_both false b c = refl

other_than : (y : ℕ) → not (y == 47) ≡ true → (47 == y) ≡ false
other_than y h = grind (arith, nat_tests)

no_slash : (x : ℕ) → not (x == 47) ≡ true → (x == 47) ≡ false
no_slash x h = grind (arith, nat_tests)

first_part : (p q : List ℕ) (P Q : List ℕ) → has_no_slash p ≡ true → has_no_slash q ≡ true
    → meet (p ++ 47 ∷ P) (q ++ 47 ∷ Q) ≡ (bytes_eq p q && meet P Q)
first_part [] [] P Q h i = refl
first_part [] (y ∷ q) P Q h i = ap (λ b. b && meet P (q ++ 47 ∷ Q)) (other_than y (and_parts _ _ i).0)
first_part (x ∷ p) [] P Q h i = ap (λ b. b && meet (p ++ 47 ∷ P) Q) (no_slash x (and_parts _ _ h).0)
first_part (x ∷ p) (y ∷ q) P Q h i =
    ap (λ b. (x == y) && b) (first_part p q P Q (and_parts _ _ h).1 (and_parts _ _ i).1) ∙ and_both (x == y) (bytes_eq p q) (meet P Q)

ended : (p P : List ℕ) → meet (p ++ 47 ∷ P) [] ≡ true
ended [] P = refl
ended (x ∷ p) P = refl

parts_meet : (ps qs : List (List ℕ)) → list_all has_no_slash ps ≡ true → list_all has_no_slash qs ≡ true → meet (joined ps) (joined qs) ≡ end_alike ps qs
parts_meet [] qs h i = refl
parts_meet (p ∷ ps) [] h i = ended p (joined ps)
parts_meet (p ∷ ps) (q ∷ qs) h i =
    let one = and_parts _ _ h in
    let two = and_parts _ _ i in
    first_part p q (joined ps) (joined qs) one.0 two.0 ∙ ap (λ b. bytes_eq p q && b) (parts_meet ps qs one.1 two.1)

pub parts_alike : (ps qs : List (List ℕ)) → list_all has_no_slash ps ≡ true → list_all has_no_slash qs ≡ true → alike (joined ps) (joined qs) ≡ end_alike ps qs
parts_alike ps qs h i = alike_is (joined ps) (joined qs) ∙ parts_meet ps qs h i

-- ---- parts have no slashes

more_clean : (b : ℕ) (pieces : List (List ℕ)) → (b == 47) ≡ false → list_all has_no_slash pieces ≡ true → list_all has_no_slash (with_byte b pieces) ≡ true
more_clean b [] h i = rw h refl
more_clean b (p ∷ ps) h i = rw h i

pieces_clean : (bytes : List ℕ) → list_all has_no_slash (pieces_of bytes) ≡ true
unfolding pieces_at
pieces_clean [] = refl
pieces_clean (b ∷ bs) =
    (elim (b == 47) as (λ t. (b == 47) ≡ t → list_all has_no_slash (if t then [] ∷ pieces_of bs else with_byte b (pieces_of bs)) ≡ true) [
      | true ↦ λ is. pieces_clean bs
      | false ↦ λ is. more_clean b (pieces_of bs) is (pieces_clean bs)
    ]) refl

kept_clean : (pieces : List (List ℕ)) → list_all has_no_slash pieces ≡ true → list_all has_no_slash (parts_after_up pieces) ≡ true
unfolding parts_after_up
kept_clean [] h = refl
kept_clean (p ∷ ps) h =
    let both = and_parts _ _ h in
    (elim (is_up p) as (λ t. list_all has_no_slash (if t then [] else if is_here p then parts_after_up ps else p ∷ parts_after_up ps) ≡ true) [
      | true ↦ refl
      | false ↦ elim (is_here p) as (λ u. list_all has_no_slash (if u then parts_after_up ps else p ∷ parts_after_up ps) ≡ true) [
        | true ↦ kept_clean ps both.1
        | false ↦ ap (λ b. b && list_all has_no_slash (parts_after_up ps)) both.0 ∙ kept_clean ps both.1
      ]
    ])

pub parts_clean : (path : List ℕ) → list_all has_no_slash (parts_of path) ≡ true
parts_clean path =
    (elim (is_folder (pieces_of (turned path))) as (λ t. list_all has_no_slash (if t then [] else parts_after_up (pieces_of (turned path))) ≡ true) [
      | true ↦ refl
      | false ↦ kept_clean (pieces_of (turned path)) (pieces_clean (turned path))
    ])

-- ---- the pieces of a key

piece_first : (p P : List ℕ) → has_no_slash p ≡ true → pieces_of (p ++ 47 ∷ P) ≡ p ∷ pieces_of P
unfolding pieces_at
piece_first [] P h = refl
piece_first (x ∷ p) P h =
    let both = and_parts _ _ h in
    let no : (x == 47) ≡ false = no_slash x both.0 in
    rw (no, piece_first p P both.1) refl

pub pieces_joined : (parts : List (List ℕ)) → list_all has_no_slash parts ≡ true → pieces_of (joined parts) ≡ parts
unfolding pieces_at
pieces_joined [] h = refl
pieces_joined (p ∷ ps) h =
    let both = and_parts _ _ h in
    piece_first p (joined ps) both.0 ∙ ap (λ rest. p ∷ rest) (pieces_joined ps both.1)

-- ---- the first part of a key

one_part : (p P : List ℕ) → take (length p + 1) (p ++ 47 ∷ P) ≡ p ++ 47 ∷ []
one_part p P =
    let count : length p + 1 ≡ length (p ++ 47 ∷ []) = sym (length-append p (47 ∷ [])) in
    rw (count, ← append_assoc p (47 ∷ []) P) (take-append_seam (p ++ 47 ∷ []) P)

pub no_parts : (key : List ℕ) → length key ≡ 0 → (parts : List (List ℕ)) → key ≡ joined parts → key ≡ joined (take 1 parts)
no_parts key none [] same = same
no_parts key none (p ∷ ps) same = absurd (omega (arith, none, ap (λ (k : List ℕ). length k) same, length-append p (47 ∷ joined ps)))

-- the first piece of a key is its first part
module _ (key piece after : List ℕ) (cut : pieces_of key ≡ piece ∷ pieces_of after) where
  is_first : (p : List ℕ) (ps : List (List ℕ)) → list_all has_no_slash (p ∷ ps) ≡ true → key ≡ joined (p ∷ ps) → length piece ≡ length p
  is_first p ps clean same =
      ap (λ (pieces : List (List ℕ)). length (first_line pieces)) (sym cut ∙ (ap (λ k. pieces_of k) same ∙ pieces_joined (p ∷ ps) clean))

  pub first_joined : length piece < length key
      → (parts : List (List ℕ)) → list_all has_no_slash parts ≡ true → key ≡ joined parts → take (length piece + 1) key ≡ joined (take 1 parts)
  first_joined within [] clean same = absurd (omega (arith, within, ap (λ (k : List ℕ). length k) same))
  first_joined within (p ∷ ps) clean same = rw (is_first p ps clean same, same) (one_part p (joined ps))

  pub whole_joined : length key ≤ length piece
      → (parts : List (List ℕ)) → list_all has_no_slash parts ≡ true → key ≡ joined parts → key ≡ joined (take 1 parts)
  whole_joined past [] clean same = same
  whole_joined past (p ∷ ps) clean same =
      absurd (omega (arith, past, is_first p ps clean same, ap (λ (k : List ℕ). length k) same, length-append p (47 ∷ joined ps)))
