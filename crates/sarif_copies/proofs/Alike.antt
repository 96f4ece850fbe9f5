-- The first result that is alike to another, after one more result.
use Rattle.std.proofs.Common.{◌≡◌, ℕ, suc, ◌+◌, Bool, true, false, ◌&&◌, if◌then◌else◌, List, [], ◌∷◌, ◌++◌, length, Option, Some, None, cond, unwrap_or, refl, sym, ap, ◌∙◌, add-zero, arith}
use Rattle.std.specs.Option.{option_or}
use Rattle.std.specs.HashMap.{HashMap, get}
use Rattle.std.specs.HashMap.Eq.{lookup_congr}
use Rattle.sarif_model.specs.declared.record.Record.{Record}
use Rattle.sarif_copies.specs.declared.whole_record.WholeRecord.{WholeRecord}
use Rattle.sarif_copies.specs.contracts.whole_record.WholeRecordEq.TheImpl.Laws.{laws-law}
use Rattle.sarif_copies.specs.Copies.{are_alike, finding_of, first_alike, has_line, record_eq}
use Rattle.sarif_copies.specs.Internal.Table.{IsTableOf, fields_of, same_whole}
use Rattle.sarif_copies.proofs.SameKeys.{same_is_equal}

or_none : {A : Type 0} (o : Option A) → option_or o None ≡ o
or_none None = refl
or_none (Some x) = refl

and_false : (b : Bool) → (b && false) ≡ false
and_false true = refl
and_false false = refl

-- a result without a line is alike to none
pub not_alike : (q r : Record) → has_line r ≡ false → are_alike q r ≡ false
not_alike q r none = ap (λ b. has_line q && (b && record_eq q r)) none ∙ and_false (has_line q)

none_alike : (r : Record) (n : ℕ) (before : List Record) → has_line r ≡ false → first_alike r n before ≡ None
none_alike r n [] none = refl
none_alike r n (q ∷ qs) none =
    ap (λ b. if b then Some n else first_alike r (n + 1) qs) (not_alike q r none) ∙ none_alike r (n + 1) qs none

-- such a result is its own finding
pub own_finding : (before : List Record) (r : Record) → has_line r ≡ false → length before ≡ finding_of before r
own_finding before r none = ap (λ o. unwrap_or o (length before)) (sym (none_alike r 0 before none))

-- one result more
more_by : (b : Bool) (n m k : ℕ) (qs more : Option ℕ) (x : Bool) → m ≡ k → more ≡ option_or qs (if x then Some m else None)
    → (if b then Some n else more) ≡ option_or (if b then Some n else qs) (if x then Some k else None)
more_by true n m k qs more x place rest = refl
more_by false n m k qs more x place rest = rest ∙ ap (λ p. option_or qs (if x then Some p else None)) place

one_more : (r : Record) (n : ℕ) (before : List Record) (x : Record)
    → first_alike r n (before ++ x ∷ []) ≡ option_or (first_alike r n before) (if are_alike x r then Some (n + length before) else None)
one_more r n [] x = ap (λ m. if are_alike x r then Some m else None) (sym (add-zero n))
one_more r n (q ∷ qs) x =
    let place : n + 1 + length qs ≡ n + suc (length qs) = omega arith in
    more_by (are_alike q r) n (n + 1 + length qs) (n + suc (length qs)) (first_alike r (n + 1) qs) (first_alike r (n + 1) (qs ++ x ∷ []))
    (are_alike x r) place (one_more r (n + 1) qs x)

-- ---- the table

module _ {S : Type 0} (before : List Record) (x : Record) (old : HashMap WholeRecord ℕ S) (table : IsTableOf before old) where
  -- a result without a line isn't added
  pub left_out : has_line x ≡ false → IsTableOf (before ++ x ∷ []) old
  left_out none key line =
      let r = fields_of key in
      table key line ∙ sym (or_none (first_alike r 0 before))
      ∙ ap (λ b. option_or (first_alike r 0 before) (if b && (has_line r && record_eq x r) then Some (0 + length before) else None)) (sym none)
      ∙ sym (one_more r 0 before x)

  module _ (own : WholeRecord) (is : fields_of own ≡ x) (line : has_line x ≡ true) (number : ℕ) (count : length before ≡ number) where
    alike_is_same : (key : WholeRecord) → has_line (fields_of key) ≡ true → are_alike x (fields_of key) ≡ same_whole own key
    alike_is_same key other =
        ap (λ b. b && (has_line (fields_of key) && record_eq x (fields_of key))) line
        ∙ ap (λ b. b && record_eq x (fields_of key)) other
        ∙ ap (λ y. record_eq y (fields_of key)) (sym is)
        ∙ sym (same_is_equal own key)

    added_at : (b : Bool) (o there : Option ℕ) → (b ≡ true → there ≡ o)
        → cond b (Some (unwrap_or there number)) o ≡ option_or o (if b then Some (0 + length before) else None)
    added_at true None there same =
        let place : number ≡ 0 + length before = omega (arith, count) in
        ap (λ p. Some (unwrap_or p number)) (same refl) ∙ ap Some place
    added_at true (Some n) there same = ap (λ p. Some (unwrap_or p number)) (same refl)
    added_at false o there same = sym (or_none o)

    pub first_is : get same_whole old own ≡ first_alike x 0 before
    first_is = table own (ap has_line is ∙ line) ∙ ap (λ r. first_alike r 0 before) is

    -- a result with a line is added: what the table has at a key after that
    pub added : (first : ℕ) → first ≡ unwrap_or (get same_whole old own) number → (key : WholeRecord) → has_line (fields_of key) ≡ true
        → (o : Option ℕ) → o ≡ cond (same_whole own key) (Some first) (get same_whole old key) → o ≡ first_alike (fields_of key) 0 (before ++ x ∷ [])
    added first told key other o updated =
        let r = fields_of key in
        let b = same_whole own key in
        updated
        ∙ ap (λ n. cond b (Some n) (get same_whole old key)) told
        ∙ added_at b (get same_whole old key) (get same_whole old own) (λ same. lookup_congr same_whole laws-law.congr old.entries own key same)
        ∙ ap (λ p. option_or p (if b then Some (0 + length before) else None)) (table key other)
        ∙ ap (λ c. option_or (first_alike r 0 before) (if c then Some (0 + length before) else None)) (sym (alike_is_same key other))
        ∙ sym (one_more r 0 before x)

-- a key that is there stays as it is
pub kept_there : (eq : WholeRecord → WholeRecord → Bool) {S : Type 0} (old : HashMap WholeRecord ℕ S) (own key : WholeRecord) (first : ℕ)
    → (eq own key ≡ true → get eq old own ≡ get eq old key) → get eq old own ≡ Some first → get eq old key ≡ cond (eq own key) (Some first) (get eq old key)
kept_there eq old own key first same there = by_test (eq own key) same
  where
    by_test : (b : Bool) → (b ≡ true → get eq old own ≡ get eq old key) → get eq old key ≡ cond b (Some first) (get eq old key)
    by_test true one = sym (one refl) ∙ there
    by_test false one = refl

pub kept_key : {S : Type 0} (old : HashMap WholeRecord ℕ S) (own key : WholeRecord) (first : ℕ)
    → get same_whole old own ≡ Some first → get same_whole old key ≡ cond (same_whole own key) (Some first) (get same_whole old key)
kept_key old own key first there =
    kept_there same_whole old own key first (λ same. lookup_congr same_whole laws-law.congr old.entries own key same) there
