-- A result is a copy if one before it is alike to it.
use Rattle.std.proofs.Common.{◌≡◌, ◌+◌, ◌<◌, ℕ, suc, Bool, true, false, not, ◌&&◌, ◌||◌, List, [], ◌∷◌, ◌++◌, length, map, Option, Some, None, unwrap_or, if◌then◌else◌, refl, sym, ap, ap₂, ◌∙◌, append_assoc, true≢false, arith}
use Rattle.std.specs.Prelude.{◌==◌}
use Rattle.std.specs.List.{AllByRecursion, list_any}
use Rattle.std.proofs.lemmas.Bool.{and_parts}
use Rattle.std.proofs.lemmas.Bool.Decides.{nat_tests}
use Rattle.std.proofs.lemmas.List.{append-nil, length-append}
use Rattle.sarif_copies.specs.Copies.{are_alike, copies_from, copies_of, finding_of, findings_after, first_alike, has_line, record_eq}
use Rattle.sarif_copies.proofs.EqualRecords.{record_same}
use Rattle.sarif_model.specs.declared.record.Record.{Record}

-- one of these is alike to the result
abbrev pub any_alike : List Record → Record → Bool
any_alike before r = list_any (λ q. are_alike q r) before

-- whether each of these results is a copy, after others
abbrev pub marks_after : List Record → List Record → List Bool
marks_after before [] = []
marks_after before (r ∷ rs) = any_alike before r ∷ marks_after (before ++ r ∷ []) rs

pub alike_same : (a b : Record) → are_alike a b ≡ true → a ≡ b
alike_same a b is =
    let one = and_parts (has_line a) (has_line b && record_eq a b) is in
    let two = and_parts (has_line b) (record_eq a b) one.1 in
    record_same a b two.1

pub any_both : (before more : List Record) (r : Record) → any_alike (before ++ more) r ≡ (any_alike before r || any_alike more r)
any_both [] more r = refl
any_both (q ∷ before) more r =
    ap (λ b. are_alike q r || b) (any_both before more r) ∙ or_assoc (are_alike q r) (any_alike before r) (any_alike more r) where
      or_assoc : (a b c : Bool) → (a || (b || c)) ≡ ((a || b) || c)
      or_assoc true b c = refl
      or_assoc false b c = refl

-- ---- the first that is alike

abbrev IsFoundBelow : Option ℕ → ℕ → Type 0
IsFoundBelow found most = (j : ℕ) × (found ≡ Some j) × (j < most)

found_below : (r : Record) (n : ℕ) (rs : List Record) → any_alike rs r ≡ true → IsFoundBelow (first_alike r n rs) (n + length rs)
found_below r n [] is = let never : ⊥ = cc in absurd never
found_below r n (q ∷ rs) is = by_first (are_alike q r) refl (found_below r (n + 1) rs) where
  by_first : (b : Bool) → are_alike q r ≡ b
      → (any_alike rs r ≡ true → IsFoundBelow (first_alike r (n + 1) rs) (n + 1 + length rs))
      → IsFoundBelow (if are_alike q r then Some n else first_alike r (n + 1) rs) (n + suc (length rs))
  by_first true alike later = (n, ap (λ b. if b then Some n else first_alike r (n + 1) rs) alike, omega arith)
  by_first false alike later =
      let rest = later (ap (λ b. b || any_alike rs r) (sym alike) ∙ is) in
      (rest.0, ap (λ b. if b then Some n else first_alike r (n + 1) rs) alike ∙ rest.1, omega (arith, rest.2))

none_found : (r : Record) (n : ℕ) (rs : List Record) → any_alike rs r ≡ false → first_alike r n rs ≡ None
none_found r n [] is = refl
none_found r n (q ∷ rs) is = by_first (are_alike q r) refl (none_found r (n + 1) rs) where
  by_first : (b : Bool) → are_alike q r ≡ b → (any_alike rs r ≡ false → first_alike r (n + 1) rs ≡ None)
      → (if are_alike q r then Some n else first_alike r (n + 1) rs) ≡ None
  by_first true alike later = absurd (true≢false (sym (ap (λ b. b || any_alike rs r) alike) ∙ is))
  by_first false alike later =
      ap (λ b. if b then Some n else first_alike r (n + 1) rs) alike
      ∙ later (ap (λ b. b || any_alike rs r) (sym alike) ∙ is)

not_own : (j n : ℕ) → j < n → not (j == n) ≡ true
not_own j n below = let other : (j == n) ≡ false = grind (arith, nat_tests) in ap not other

own : (n : ℕ) → not (n == n) ≡ false
own n = let same : (n == n) ≡ true = grind (arith, nat_tests) in ap not same

mark_is : (before : List Record) (r : Record) → not (finding_of before r == length before) ≡ any_alike before r
mark_is before r = by_any (any_alike before r) refl where
  by_any : (b : Bool) → any_alike before r ≡ b → not (finding_of before r == length before) ≡ any_alike before r
  by_any true is =
      let found = found_below r 0 before is in
      ap (λ o. not (unwrap_or o (length before) == length before)) found.1 ∙ not_own found.0 (length before) (omega (arith, found.2)) ∙ sym is
  by_any false is =
      ap (λ o. not (unwrap_or o (length before) == length before)) (none_found r 0 before is) ∙ own (length before) ∙ sym is

marks_are : (before rs : List Record) (n : ℕ) → length before ≡ n → copies_from n (findings_after before rs) ≡ marks_after before rs
marks_are before [] n same = refl
marks_are before (r ∷ rs) n same =
    let more = length-append before (r ∷ []) in
    ap₂ (λ b bs. b ∷ bs) (ap (λ k. not (finding_of before r == k)) (sym same) ∙ mark_is before r)
    (marks_are (before ++ r ∷ []) rs (n + 1) (omega (arith, more, same)))

pub copies_are : (rs : List Record) → copies_of rs ≡ marks_after [] rs
copies_are rs = marks_are [] rs 0 refl

-- ---- results after others

pub marks_seam : (before rs more : List Record) → marks_after before (rs ++ more) ≡ marks_after before rs ++ marks_after (before ++ rs) more
marks_seam before [] more = ap (λ bs. marks_after bs more) (sym (append-nil before))
marks_seam before (r ∷ rs) more =
    ap (λ bs. any_alike before r ∷ bs)
    (marks_seam (before ++ r ∷ []) rs more
    ∙ ap (λ qs. marks_after (before ++ r ∷ []) rs ++ marks_after qs more) (append_assoc before (r ∷ []) rs))

all_marked : (rs done more : List Record) → AllByRecursion (λ r. any_alike rs r ≡ true) more → marks_after (rs ++ done) more ≡ map (λ _. true) more
all_marked rs done [] alike = refl
all_marked rs done (r ∷ more) alike =
    ap₂ (λ b bs. b ∷ bs) (any_both rs done r ∙ ap (λ b. b || any_alike done r) alike.0)
    (ap (λ qs. marks_after qs more) (append_assoc rs done (r ∷ [])) ∙ all_marked rs (done ++ r ∷ []) more alike.1)

-- results that are alike to ones before them are copies
pub copies_after : (rs more : List Record) → AllByRecursion (λ r. any_alike rs r ≡ true) more → copies_of (rs ++ more) ≡ copies_of rs ++ map (λ _. true) more
copies_after rs more alike =
    copies_are (rs ++ more) ∙ marks_seam [] rs more
    ∙ ap₂ (λ a b. a ++ b) (sym (copies_are rs)) (ap (λ qs. marks_after qs more) (sym (append-nil rs)) ∙ all_marked rs [] more alike)
