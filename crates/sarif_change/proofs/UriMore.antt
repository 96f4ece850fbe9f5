-- A URI, byte by byte, as a loop decodes it.
use Rattle.std.proofs.Common.{◌≡◌, ℕ, ◌+◌, ◌-◌, ◌<◌, ◌≤◌, suc, zero, List, [], ◌∷◌, ◌++◌, length, take, drop, get_or, refl, ap, sym, ◌∙◌, arith}
use Rattle.std.specs.Prelude.{unwrap_or}
use Rattle.std.proofs.lemmas.List.{append-nil, append_assoc, drop_more, at_drop_all, take_rest}
use Rattle.sarif_change.specs.Uri.{decoded_from, escaped, digits_after}

skip_one : (skipped : ℕ) (b : ℕ) (bs : List ℕ) → 0 < skipped → decoded_from (skipped - 1) bs ≡ decoded_from skipped (b ∷ bs)
unfolding decoded_from
skip_one zero b bs some = absurd (omega arith)
skip_one (suc n) b bs some = let is : suc n - 1 ≡ n = omega arith in rw is refl

pub skips : (out uri : List ℕ) (at skipped : ℕ) → at < length uri → 0 < skipped
    → out ++ decoded_from (skipped - 1) (drop (at + 1) uri) ≡ out ++ decoded_from skipped (drop at uri)
skips out uri at skipped within some =
    ap (λ rest. out ++ rest)
    (skip_one skipped (get_or uri at 0) (drop (at + 1) uri) some ∙ ap (λ bs. decoded_from skipped bs) (sym (drop_more uri at 0 within)))

step : (out : List ℕ) (b : ℕ) (bs : List ℕ)
    → (out ++ unwrap_or (escaped b bs) b ∷ []) ++ decoded_from (digits_after (escaped b bs)) bs ≡ out ++ decoded_from 0 (b ∷ bs)
unfolding decoded_from
step out b bs = append_assoc out (unwrap_or (escaped b bs) b ∷ []) (decoded_from (digits_after (escaped b bs)) bs)

pub goes : (out uri : List ℕ) (at skipped : ℕ) → at < length uri → skipped ≤ 0
    → (out ++ unwrap_or (escaped (get_or uri at 0) (take (length uri - (at + 1)) (drop (at + 1) uri))) (get_or uri at 0) ∷ [])
    ++ decoded_from (digits_after (escaped (get_or uri at 0) (take (length uri - (at + 1)) (drop (at + 1) uri)))) (drop (at + 1) uri)
    ≡ out ++ decoded_from skipped (drop at uri)
goes out uri at skipped within none =
    let is : skipped ≡ 0 = omega arith in
    rw (is, take_rest uri (at + 1), drop_more uri at 0 within) (step out (get_or uri at 0) (drop (at + 1) uri))

pub at_end : (out uri : List ℕ) (at skipped : ℕ) → length uri ≤ at → out ++ decoded_from skipped (drop at uri) ≡ out
unfolding decoded_from
at_end out uri at skipped past =
    let none : drop at uri ≡ [] = at_drop_all (λ bs. bs) uri at past in
    rw none (append-nil out)
