-- Lists without what is hidden.
use Rattle.std.proofs.Common.{◌≡◌, ◌<◌, ◌≤◌, ◌+◌, ◌++◌, ◌&&◌, ℕ, suc, Bool, true, false, not, List, [], ◌∷◌, Some, None, map, drop, length, get_or, append_assoc, append-nil, refl, sym, ap, ◌∙◌, arith}
use Rattle.std.proofs.lemmas.List.{drop_all, drop_more}
use Rattle.std.specs.Prelude.{IfSome}
use Rattle.sarif_accept.specs.Choosing.{chosen_by, is_chosen_at, Marks}
use Rattle.sarif_accept.specs.Keeping.{chosen}
use Rattle.sarif_read.specs.Unmarked.{unmarked}
use Rattle.sarif_upkeep.specs.Hiding.{chosen_unless, looked_at}
use Rattle.sarif_upkeep.specs.Internal.Hiding.{is_hidden_at, marks_left}
use Rattle.sarif_upkeep.specs.Merge.{marks_by, shown_by}

-- ---- one more element

pub none_shown : {X : Type 0} (marks : Marks) → shown_by {A = X} marks [] ≡ []
none_shown None = refl
none_shown (Some []) = refl
none_shown (Some (h ∷ hs)) = refl

pub zero_more : (n : ℕ) → 0 + n ≡ n
zero_more n = omega arith

pub none_left : (marks : Marks) → marks_left 0 marks ≡ marks
none_left None = refl
none_left (Some hs) = refl

-- as many marks as results, seen from either of both names
pub within_marks : (marks : Marks) (n k : ℕ) → n < k → IfSome marks (λ hs. length hs ≡ k) → IfSome marks (λ hs. n < length hs)
within_marks None n k within long = long
within_marks (Some hs) n k within long = omega (arith, within, long)

pub shown_first : {X : Type 0} (marks : Marks) (xs : List X) (n : ℕ) (x d : X) → n < length xs → IfSome marks (λ hs. n < length hs)
    → x ≡ get_or xs n d → is_hidden_at marks n ≡ false
    → shown_by (marks_left n marks) (drop n xs) ≡ x ∷ shown_by (marks_left (n + 1) marks) (drop (n + 1) xs)
shown_first None xs n x d within marked is seen = drop_more xs n d within ∙ ap (λ y. y ∷ drop (n + 1) xs) (sym is)
shown_first (Some hs) xs n x d within marked is seen =
    ap (λ l. unmarked (drop n hs) l) (drop_more xs n d within ∙ ap (λ y. y ∷ drop (n + 1) xs) (sym is))
    ∙ ap (λ l. unmarked l (x ∷ drop (n + 1) xs)) (drop_more hs n false marked ∙ ap (λ h. h ∷ drop (n + 1) hs) seen)

pub shown_skip : {X : Type 0} (marks : Marks) (xs : List X) (n : ℕ) (d : X) → n < length xs → IfSome marks (λ hs. n < length hs)
    → is_hidden_at marks n ≡ true
    → shown_by (marks_left n marks) (drop n xs) ≡ shown_by (marks_left (n + 1) marks) (drop (n + 1) xs)
shown_skip None xs n d within marked hides = let never : ⊥ = cc in absurd never
shown_skip (Some hs) xs n d within marked hides =
    ap (λ l. unmarked (drop n hs) l) (drop_more xs n d within)
    ∙ ap (λ l. unmarked l (get_or xs n d ∷ drop (n + 1) xs)) (drop_more hs n false marked ∙ ap (λ h. h ∷ drop (n + 1) hs) hides)

pub shown_past : {X : Type 0} (marks : Marks) (xs : List X) (n : ℕ) → length xs ≤ n → shown_by (marks_left n marks) (drop n xs) ≡ []
shown_past marks xs n past = ap (shown_by (marks_left n marks)) (drop_all n xs past) ∙ none_shown (marks_left n marks)

-- ---- the chosen ones of what isn't hidden

unless_chosen : {X : Type 0} (hs ms : List Bool) (xs : List X) → length hs ≡ length xs
    → chosen (chosen_unless hs ms) xs ≡ chosen (unmarked hs ms) (unmarked hs xs)
unless_chosen [] [] [] same = refl
unless_chosen [] (m ∷ ms) [] same = refl
unless_chosen [] ms (x ∷ xs) same = absurd (omega (arith, same))
unless_chosen (h ∷ hs) ms [] same = absurd (omega (arith, same))
unless_chosen (h ∷ hs) [] (x ∷ xs) same = refl
unless_chosen (true ∷ hs) (m ∷ ms) (x ∷ xs) same = unless_chosen hs ms xs (omega (arith, same))
unless_chosen (false ∷ hs) (true ∷ ms) (x ∷ xs) same = ap (λ l. x ∷ l) (unless_chosen hs ms xs (omega (arith, same)))
unless_chosen (false ∷ hs) (false ∷ ms) (x ∷ xs) same = unless_chosen hs ms xs (omega (arith, same))

all_unless : {X : Type 0} (hs : List Bool) (xs : List X) → length hs ≡ length xs → chosen (map not hs) xs ≡ unmarked hs xs
all_unless [] [] same = refl
all_unless [] (x ∷ xs) same = absurd (omega (arith, same))
all_unless (h ∷ hs) [] same = absurd (omega (arith, same))
all_unless (true ∷ hs) (x ∷ xs) same = all_unless hs xs (omega (arith, same))
all_unless (false ∷ hs) (x ∷ xs) same = ap (λ l. x ∷ l) (all_unless hs xs (omega (arith, same)))

pub chosen_looked_at : {X : Type 0} (hs : List Bool) (marks : Marks) (xs : List X) → length hs ≡ length xs
    → chosen (looked_at hs marks) xs ≡ chosen_by (marks_by (Some hs) marks) (unmarked hs xs)
chosen_looked_at hs None xs same = all_unless hs xs same
chosen_looked_at hs (Some ms) xs same = unless_chosen hs ms xs same

-- ---- marking them

unless_long : (hs ms : List Bool) → length ms ≡ length hs → length (chosen_unless hs ms) ≡ length hs
unless_long [] ms same = refl
unless_long (h ∷ hs) [] same = absurd (omega (arith, same))
unless_long (h ∷ hs) (m ∷ ms) same = ap suc (unless_long hs ms (omega (arith, same)))

not_long : (hs : List Bool) → length (map not hs) ≡ length hs
not_long [] = refl
not_long (h ∷ hs) = ap suc (not_long hs)

pub looked_long : (hs : List Bool) (marks : Marks) → IfSome marks (λ ms. length ms ≡ length hs) → length (looked_at hs marks) ≡ length hs
looked_long hs None same = not_long hs
looked_long hs (Some ms) same = unless_long hs ms same

one_looked : (marks : Marks) (hs : List Bool) (n : ℕ) (h d : Bool) → n < length hs → IfSome marks (λ ms. n < length ms) → h ≡ get_or hs n d
    → looked_at (drop n hs) (marks_left n marks)
    ≡ (not h && is_chosen_at marks n) ∷ looked_at (drop (n + 1) hs) (marks_left (n + 1) marks)
one_looked None hs n h d within marked is =
    ap (map not) (drop_more hs n d within ∙ ap (λ y. y ∷ drop (n + 1) hs) (sym is))
    ∙ ap (λ b. b ∷ map not (drop (n + 1) hs)) (and_true (not h))
  where
    and_true : (b : Bool) → b ≡ (b && true)
    and_true true = refl
    and_true false = refl
one_looked (Some ms) hs n h d within marked is =
    ap (λ l. chosen_unless l (drop n ms)) (drop_more hs n d within ∙ ap (λ y. y ∷ drop (n + 1) hs) (sym is))
    ∙ ap (chosen_unless (h ∷ drop (n + 1) hs)) (drop_more ms n false marked)

pub looked_next : (marks : Marks) (hs : List Bool) (n : ℕ) (h d : Bool) (old new whole : List Bool) → n < length hs
    → IfSome marks (λ ms. n < length ms) → h ≡ get_or hs n d → new ≡ old ++ (not h && is_chosen_at marks n) ∷ []
    → old ++ looked_at (drop n hs) (marks_left n marks) ≡ whole
    → new ++ looked_at (drop (n + 1) hs) (marks_left (n + 1) marks) ≡ whole
looked_next marks hs n h d old new whole within marked is pushed held =
    let one = not h && is_chosen_at marks n in
    let rest = looked_at (drop (n + 1) hs) (marks_left (n + 1) marks) in
    ap (λ l. l ++ rest) pushed ∙ append_assoc old (one ∷ []) rest ∙ ap (λ l. old ++ l) (sym (one_looked marks hs n h d within marked is)) ∙ held

pub looked_start : (marks : Marks) (hs : List Bool) → looked_at hs (marks_left 0 marks) ≡ looked_at hs marks
looked_start marks hs = ap (looked_at hs) (none_left marks)

pub looked_end : (marks : Marks) (hs : List Bool) (n : ℕ) (all whole : List Bool) → length hs ≤ n
    → all ++ looked_at (drop n hs) (marks_left n marks) ≡ whole → all ≡ whole
looked_end marks hs n all whole past held =
    sym (append-nil all) ∙ ap (λ l. all ++ l) (sym (ap (λ l. looked_at l (marks_left n marks)) (drop_all n hs past) ∙ none_looked (marks_left n marks))) ∙ held
  where
    none_looked : (marks : Marks) → looked_at [] marks ≡ []
    none_looked None = refl
    none_looked (Some ms) = refl
