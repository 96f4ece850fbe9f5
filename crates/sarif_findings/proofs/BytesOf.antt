-- A test has the same result on characters as on their bytes, if it is true for all from 128 on.
use Rattle.std.proofs.Common.{◌≡◌, ◌<◌, ◌&&◌, ℕ, Bool, true, false, List, [], ◌∷◌, encode_utf8, refl, sym, ap, ◌∙◌}
use Rattle.std.specs.Prelude.{encode_utf8_all}
use Rattle.std.specs.List.{list_all}
use Rattle.std.proofs.lemmas.Bool.{and_parts}
use Rattle.std.proofs.lemmas.List.Folds.{list_all-append}
use Rattle.std.proofs.lemmas.Str.{encode_ascii}

module _ (test : ℕ → Bool) (low : (c : ℕ) → test c ≡ false → c < 128) where
  char_passes : (c : ℕ) (b : Bool) → test c ≡ b → list_all test (encode_utf8 c) ≡ true → test c ≡ true
  char_passes c true e h = e
  char_passes c false e h =
      let one : list_all test (c ∷ []) ≡ true = ap (list_all test) (sym (encode_ascii c (low c e))) ∙ h in
      (and_parts (test c) true one).0

  -- the first character passes, and so do the bytes of the others
  pub first_passes : (c : ℕ) (cs : List ℕ) → list_all test (encode_utf8_all (c ∷ cs)) ≡ true
      → (test c ≡ true) × (list_all test (encode_utf8_all cs) ≡ true)
  first_passes c cs h =
      let both : (list_all test (encode_utf8 c) && list_all test (encode_utf8_all cs)) ≡ true =
      sym (list_all-append test (encode_utf8 c) (encode_utf8_all cs)) ∙ h in
      let parts = and_parts _ _ both in
      (char_passes c (test c) refl parts.0, parts.1)
