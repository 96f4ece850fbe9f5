-- A URI without `%`, `?` and `#`: all its readings are the URI itself, so it represents one path.
use Rattle.std.proofs.Common.{◌≡◌, ℕ, ◌+◌, Bool, true, false, not, ◌||◌, ◌==◌, List, [], ◌∷◌, take, Option, Some, None, suc, refl, sym, ap, ◌∙◌, arith}
use Rattle.std.specs.List.{list_any, list_all, position_or_len}
use Rattle.sarif_change.specs.Uri.{Path, after_root, after_roots, before_cut, chosen_paths, decoded_from, is_cut, own_path, paths_of, readings_of, relative_path}
use Rattle.sarif_change.specs.Internal.Keys.{has_no_slash}
use Rattle.sarif_change.specs.Internal.Sought.{four_times, is_special, plain_by, plain_path}
use Rattle.sarif_change.proofs.JoinedMore.{parts_clean}

split : (a b c d : Bool) → (((a || b) || c) || d) ≡ false → (a ≡ false) × ((b || c) ≡ false) × (d ≡ false)
split true b c d h = cc
split false true c d h = cc
split false false true d h = cc
split false false false d h = (refl, refl, h)

decoded_same : (uri : List ℕ) → list_any is_special uri ≡ false → decoded_from 0 uri ≡ uri
unfolding decoded_from
decoded_same [] h = refl
decoded_same (b ∷ bs) h =
    let parts = split (b == 37) (b == 63) (b == 35) (list_any is_special bs) h in
    rw parts.0 (ap (λ l. b ∷ l) (decoded_same bs parts.2))

take_one : (n b : ℕ) (bs : List ℕ) → take (1 + n) (b ∷ bs) ≡ b ∷ take n bs
take_one n b bs = let is : 1 + n ≡ suc n = omega arith in rw is refl

cut_same : (uri : List ℕ) → list_any is_special uri ≡ false → before_cut uri ≡ uri
cut_same [] h = refl
cut_same (b ∷ bs) h =
    let parts = split (b == 37) (b == 63) (b == 35) (list_any is_special bs) h in
    rw parts.1 (take_one (position_or_len is_cut bs) b bs ∙ ap (λ l. b ∷ l) (cut_same bs parts.2))

pub one_reading : (uri : List ℕ) (found : Bool) → found ≡ list_any is_special uri → not found ≡ true
    → readings_of uri ≡ four_times uri
one_reading uri true is plain = cc
one_reading uri false is plain =
    let none : list_any is_special uri ≡ false = sym is in
    rw (cut_same uri none, decoded_same uri none) refl

-- ---- its path

plain_parts : (uri : List ℕ) (rest : Option (List ℕ)) → list_all has_no_slash (plain_by uri rest).1 ≡ true
plain_parts uri None = parts_clean uri
plain_parts uri (Some rest) = parts_clean rest

pub plain_clean : (roots : List (List ℕ)) (uri : List ℕ) → list_all has_no_slash (plain_path roots uri).1 ≡ true
plain_clean roots uri = plain_parts uri (after_root roots uri)

or_same : (b : Bool) → (b || (b || (b || (b || false)))) ≡ b
or_same true = refl
or_same false = refl

found_by : (test : Path → Bool) (roots : List (List ℕ)) (uri : List ℕ) (rest : Option (List ℕ)) → after_root roots uri ≡ rest
    → list_any test (chosen_paths (four_times uri) (after_roots roots (four_times uri))) ≡ test (plain_by uri rest)
found_by test roots uri None is = rw is (or_same (test (own_path uri)))
found_by test roots uri (Some rest) is = rw is (or_same (test (relative_path rest)))

pub plain_found : (test : Path → Bool) (roots : List (List ℕ)) (uri : List ℕ) → readings_of uri ≡ four_times uri
    → list_any test (paths_of roots uri) ≡ test (plain_path roots uri)
plain_found test roots uri is =
    ap (λ rs. list_any test (chosen_paths rs (after_roots roots rs))) is ∙ found_by test roots uri (after_root roots uri) refl
