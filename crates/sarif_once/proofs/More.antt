-- Results that are alike to earlier ones change no finding.
use Rattle.std.proofs.Common.{◌≡◌, ◌+◌, ◌<◌, ℕ, suc, Bool, true, false, not, ◌||◌, List, [], ◌∷◌, ◌++◌, map, length, Option, Some, unwrap_or, if◌then◌else◌, refl, sym, ap, ◌∙◌, append_assoc, arith}
use Rattle.std.specs.Prelude.{◌==◌}
use Rattle.std.specs.List.{AllByRecursion, list_any}
use Rattle.std.proofs.lemmas.Bool.Decides.{nat_tests}
use Rattle.std.proofs.lemmas.List.{append-nil, length-append}
use Rattle.sarif_copies.specs.Copies.{are_alike, copies_from, copies_of, finding_of, findings_after, findings_of, first_alike}
use Rattle.sarif_model.specs.declared.record.Record.{Record}
use Rattle.sarif_read.specs.Unmarked.{unmarked}
use Rattle.sarif_once.proofs.Marks.{findings_long, marked_each}

findings_seam : (before rs qs : List Record) → findings_after before (rs ++ qs) ≡ findings_after before rs ++ findings_after (before ++ rs) qs
findings_seam before [] qs = ap (λ bs. findings_after bs qs) (sym (append-nil before))
findings_seam before (r ∷ rs) qs =
    ap (λ ns. finding_of before r ∷ ns) (findings_seam (before ++ r ∷ []) rs qs
    ∙ ap (λ bs. findings_after (before ++ r ∷ []) rs ++ findings_after bs qs) (append_assoc before (r ∷ []) rs))

copies_seam : (n : ℕ) (xs ys : List ℕ) → copies_from n (xs ++ ys) ≡ copies_from n xs ++ copies_from (n + length xs) ys
copies_seam n [] ys = let same : n ≡ n + 0 = omega arith in ap (λ k. copies_from k ys) same
copies_seam n (x ∷ xs) ys =
    let same : n + 1 + length xs ≡ n + suc (length xs) = omega arith in
    ap (λ cs. not (x == n) ∷ cs) (copies_seam (n + 1) xs ys ∙ ap (λ k. copies_from (n + 1) xs ++ copies_from k ys) same)

-- an earlier one is found
abbrev IsFoundBelow : Option ℕ → ℕ → Type 0
IsFoundBelow found most = (j : ℕ) × (found ≡ Some j) × (j < most)

found_below : (r : Record) (n : ℕ) (rs more : List Record) → list_any (λ q. are_alike q r) rs ≡ true
    → IsFoundBelow (first_alike r n (rs ++ more)) (n + length rs)
found_below r n [] more is = let never : ⊥ = cc in absurd never
found_below r n (q ∷ rs) more is = by_first (are_alike q r) refl (found_below r (n + 1) rs more) where
  by_first : (b : Bool) → are_alike q r ≡ b
      → (list_any (λ p. are_alike p r) rs ≡ true → IsFoundBelow (first_alike r (n + 1) (rs ++ more)) (n + 1 + length rs))
      → IsFoundBelow (if are_alike q r then Some n else first_alike r (n + 1) (rs ++ more)) (n + suc (length rs))
  by_first true alike later = (n, ap (λ b. if b then Some n else first_alike r (n + 1) (rs ++ more)) alike, omega arith)
  by_first false alike later =
      let rest = later (ap (λ b. b || list_any (λ p. are_alike p r) rs) (sym alike) ∙ is) in
      (rest.0, ap (λ b. if b then Some n else first_alike r (n + 1) (rs ++ more)) alike ∙ rest.1, omega (arith, rest.2))

not_own : (j n : ℕ) → j < n → not (j == n) ≡ true
not_own j n below = let other : (j == n) ≡ false = grind (arith, nat_tests) in ap not other

all_copies : (rs done qs : List Record) (n : ℕ) → length (rs ++ done) ≡ n → AllByRecursion (λ r. list_any (λ q. are_alike q r) rs ≡ true) qs
    → copies_from n (findings_after (rs ++ done) qs) ≡ map (λ _. true) qs
all_copies rs done [] n same alike = refl
all_copies rs done (q ∷ qs) n same alike =
    let found = found_below q 0 rs done alike.0 in
    let few = length-append rs done in
    let below : found.0 < n = omega (arith, found.2, few, same) in
    let here : finding_of (rs ++ done) q ≡ found.0 = ap (λ o. unwrap_or o (length (rs ++ done))) found.1 in
    let more : length (rs ++ (done ++ q ∷ [])) ≡ n + 1 =
    let a = length-append rs (done ++ q ∷ []) in
    let b = length-append done (q ∷ []) in
    omega (arith, a, b, few, same) in
    ap (λ k. not (k == n) ∷ copies_from (n + 1) (findings_after ((rs ++ done) ++ q ∷ []) qs)) here
    ∙ ap (λ b. b ∷ copies_from (n + 1) (findings_after ((rs ++ done) ++ q ∷ []) qs)) (not_own found.0 n below)
    ∙ ap (λ bs. true ∷ copies_from (n + 1) (findings_after bs qs)) (append_assoc rs done (q ∷ []))
    ∙ ap (λ cs. true ∷ cs) (all_copies rs (done ++ q ∷ []) qs (n + 1) more alike.1)

all_marked : {X Y : Type 0} (ms : List Bool) (xs : List X) (ys : List Y) (zs : List X) → length ms ≡ length xs → length ys ≡ length zs
    → unmarked (ms ++ map (λ _. true) ys) (xs ++ zs) ≡ unmarked ms xs
all_marked [] [] [] [] same_m same_y = refl
all_marked [] [] [] (z ∷ zs) same_m same_y = absurd (omega (arith, same_y))
all_marked [] [] (y ∷ ys) [] same_m same_y = absurd (omega (arith, same_y))
all_marked [] [] (y ∷ ys) (z ∷ zs) same_m same_y = all_marked [] [] ys zs same_m (omega (arith, same_y))
all_marked [] (x ∷ xs) ys zs same_m same_y = absurd (omega (arith, same_m))
all_marked (m ∷ ms) [] ys zs same_m same_y = absurd (omega (arith, same_m))
all_marked (true ∷ ms) (x ∷ xs) ys zs same_m same_y = all_marked ms xs ys zs (omega (arith, same_m)) same_y
all_marked (false ∷ ms) (x ∷ xs) ys zs same_m same_y = ap (λ us. x ∷ us) (all_marked ms xs ys zs (omega (arith, same_m)) same_y)

pub findings_same : (rs more : List Record) → AllByRecursion (λ r. list_any (λ q. are_alike q r) rs ≡ true) more
    → unmarked (copies_of (rs ++ more)) (rs ++ more) ≡ unmarked (copies_of rs) rs
findings_same rs more alike =
    let fs = findings_of rs in
    let from : 0 + length fs ≡ length fs = omega arith in
    let count : length (rs ++ []) ≡ length fs = ap length (append-nil rs) ∙ sym (findings_long [] rs) in
    ap (λ ns. unmarked (copies_from 0 ns) (rs ++ more)) (findings_seam [] rs more ∙ ap (λ bs. fs ++ findings_after bs more) (sym (append-nil rs)))
    ∙ ap (λ cs. unmarked cs (rs ++ more)) (copies_seam 0 fs (findings_after (rs ++ []) more)
    ∙ ap (λ k. copies_of rs ++ copies_from k (findings_after (rs ++ []) more)) from
    ∙ ap (λ cs. copies_of rs ++ cs) (all_copies rs [] more (length fs) count alike))
    ∙ all_marked (copies_of rs) rs more more (marked_each rs) refl
