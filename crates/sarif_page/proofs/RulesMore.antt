-- The rules of results, one result more, and the rules by their numbers of results.
use Rattle.std.proofs.Common.{◌≡◌, ◌<◌, ◌≤◌, ◌+◌, ℕ, zero, suc, Bool, true, false, cond, ◌&&◌, List, [], ◌∷◌, ◌++◌, length, take, drop, map, get_or, bytes_eq, nat_lt, Some, unwrap_or, if◌then◌else◌, refl, sym, ap, ap₂, subst, ◌∙◌, append_assoc, append-nil, arith}
use Rattle.std.specs.HashMap.{HashMap, get}
use Rattle.std.specs.HashMap.Eq.{lookup_congr}
use Rattle.std.specs.List.{count_by, insert}
use Rattle.std.proofs.lemmas.List.{map-append, length-map, get_or-map, take-map, drop-map, take_more, drop_more, drop_all}
use Rattle.std.proofs.lemmas.List.Sums.{sum_by-append, sum_by-cons}
use Rattle.sarif_findings.specs.declared.finding.Finding.{Finding}
use Rattle.sarif_page.specs.declared.rules.Rule.{Rule as Made}
use Rattle.sarif_page.specs.declared.rules.RuleKey.{RuleKey}
use Rattle.sarif_page.specs.contracts.rules.RuleKeyEq.TheImpl.Laws.{laws-law}
use Rattle.sarif_page.specs.Internal.Rules.{AreCounted, counted, is_of, rule_in, rules_in, same_rule}
use Rattle.sarif_page.specs.HtmlRules.{Rule, first_if, firsts_after, has_rule, is_alike, rule_among, placed, all_placed}
use Rattle.sarif_page.proofs.FilesMore.{texts_swap}

-- ---- one result more

pub firsts_more : (before fs : List Finding) (f : Finding)
    → firsts_after before (fs ++ f ∷ []) ≡ firsts_after before fs ++ first_if (count_by (is_alike f) (before ++ fs)) f
firsts_more before [] f =
    append-nil (first_if (count_by (is_alike f) before) f) ∙ ap (λ l. first_if (count_by (is_alike f) l) f) (sym (append-nil before))
firsts_more before (g ∷ fs) f =
    let first = first_if (count_by (is_alike g) before) g in
    ap (λ l. first ++ l) (firsts_more (before ++ g ∷ []) fs f)
    ∙ ap (λ l. first ++ (firsts_after (before ++ g ∷ []) fs ++ first_if (count_by (is_alike f) l) f)) (append_assoc before (g ∷ []) fs)
    ∙ sym (append_assoc first (firsts_after (before ++ g ∷ []) fs) (first_if (count_by (is_alike f) (before ++ (g ∷ fs))) f))

pub count_more : (p : Finding → Bool) (fs : List Finding) (f : Finding)
    → count_by p (fs ++ f ∷ []) ≡ count_by p fs + (if p f then 1 else 0)
count_more p fs f =
    sum_by-append (λ g. cond (p g) 1 0) fs (f ∷ []) ∙ ap (λ n. count_by p fs + n) (sum_by-cons (λ g. cond (p g) 1 0) f [] ∙ omega arith)

-- ---- the rules with the most results first

cut_less : (n : ℕ) (rs : List Rule) → take n (take (suc n) rs) ≡ take n rs
cut_less zero rs = refl
cut_less (suc n) [] = refl
cut_less (suc n) (r ∷ rs) = ap (λ l. r ∷ l) (cut_less n rs)

cut_behind : (n : ℕ) (s : Rule) (rs : List Rule) → take n (s ∷ take n rs) ≡ take n (s ∷ rs)
cut_behind zero s rs = refl
cut_behind (suc n) s rs = ap (λ l. s ∷ l) (cut_less n rs)

cut_by : (b : Bool) (n : ℕ) (r s : Rule) (rs : List Rule) → take n (placed r (take n rs)) ≡ take n (placed r rs)
    → take (suc n) (cond b (r ∷ (s ∷ take n rs)) (s ∷ placed r (take n rs))) ≡ take (suc n) (cond b (r ∷ (s ∷ rs)) (s ∷ placed r rs))
cut_by true n r s rs later = ap (λ l. r ∷ l) (cut_behind n s rs)
cut_by false n r s rs later = ap (λ l. s ∷ l) later

-- only the first rules decide the first ones with one more
cut_placed : (n : ℕ) (r : Rule) (rs : List Rule) → take n (placed r (take n rs)) ≡ take n (placed r rs)
cut_placed zero r rs = refl
cut_placed (suc n) r [] = refl
cut_placed (suc n) r (s ∷ rs) = cut_by (nat_lt s.number r.number) n r s rs (cut_placed n r rs)

cut_again : (n : ℕ) (rs : List Rule) → take n (take n rs) ≡ take n rs
cut_again zero rs = refl
cut_again (suc n) [] = refl
cut_again (suc n) (r ∷ rs) = ap (λ l. r ∷ l) (cut_again n rs)

pub cut_all : (n : ℕ) (rs xs ys : List Rule) → take n xs ≡ take n ys → take n (all_placed xs rs) ≡ take n (all_placed ys rs)
cut_all n [] xs ys same = same
cut_all n (r ∷ rs) xs ys same =
    cut_all n rs (placed r xs) (placed r ys) (sym (cut_placed n r xs) ∙ ap (λ l. take n (placed r l)) same ∙ cut_placed n r ys)

-- one rule more is placed
pub placed_next : (n : ℕ) (r : Rule) (rs old new : List Rule) → new ≡ take n (placed r old)
    → take n (all_placed new rs) ≡ take n (all_placed old (r ∷ rs))
placed_next n r rs old new is = cut_all n rs new (placed r old) (ap (take n) is ∙ cut_again n (placed r old))

-- ---- the place of a rule

pub placed_here : (r s : Rule) (rs : List Rule) (i : ℕ) → i < length rs → s ≡ get_or rs i s → nat_lt s.number r.number ≡ true
    → placed r rs ≡ take i rs ++ placed r (drop i rs) → placed r rs ≡ insert rs i r
placed_here r s rs i within is less so_far =
    let rest : drop i rs ≡ s ∷ drop (i + 1) rs = drop_more rs i s within ∙ ap (λ x. x ∷ drop (i + 1) rs) (sym is) in
    so_far
    ∙ ap (λ l. take i rs ++ placed r l) rest
    ∙ ap (λ b. take i rs ++ (if b then r ∷ (s ∷ drop (i + 1) rs) else s ∷ placed r (drop (i + 1) rs))) less
    ∙ ap (λ l. take i rs ++ r ∷ l) (sym rest)

pub placed_past : (r s : Rule) (rs : List Rule) (i : ℕ) → i < length rs → s ≡ get_or rs i s → nat_lt s.number r.number ≡ false
    → placed r rs ≡ take i rs ++ placed r (drop i rs) → placed r rs ≡ take (i + 1) rs ++ placed r (drop (i + 1) rs)
placed_past r s rs i within is more so_far =
    let rest : drop i rs ≡ s ∷ drop (i + 1) rs = drop_more rs i s within ∙ ap (λ x. x ∷ drop (i + 1) rs) (sym is) in
    let first : take (i + 1) rs ≡ take i rs ++ s ∷ [] = take_more rs i s within ∙ ap (λ x. take i rs ++ x ∷ []) (sym is) in
    so_far
    ∙ ap (λ l. take i rs ++ placed r l) rest
    ∙ ap (λ b. take i rs ++ (if b then r ∷ (s ∷ drop (i + 1) rs) else s ∷ placed r (drop (i + 1) rs))) more
    ∙ sym (append_assoc (take i rs) (s ∷ []) (placed r (drop (i + 1) rs)))
    ∙ ap (λ l. l ++ placed r (drop (i + 1) rs)) (sym first)

pub placed_last : (r : Rule) (rs : List Rule) (i : ℕ) → length rs ≤ i → placed r rs ≡ take i rs ++ placed r (drop i rs) → placed r rs ≡ insert rs i r
placed_last r rs i past so_far =
    so_far ∙ ap (λ l. take i rs ++ placed r l) (drop_all i rs past) ∙ ap (λ l. take i rs ++ r ∷ l) (sym (drop_all i rs past))

pub inserted : {X Y : Type 0} (f : X → Y) (xs : List X) (i : ℕ) (x : X) → map f (insert xs i x) ≡ insert (map f xs) i (f x)
inserted f xs i x =
    map-append f (take i xs) (x ∷ drop i xs)
    ∙ ap (λ l. l ++ f x ∷ map f (drop i xs)) (sym (take-map f i xs))
    ∙ ap (λ l. take i (map f xs) ++ f x ∷ l) (sym (drop-map f i xs))

-- ---- the table

-- a key is of a result exactly if it is equal to the result's own
pub key_is : (key q : RuleKey) (f : Finding) → key.rule.now ≡ f.rule → key.tool.now ≡ f.tool → is_of q f ≡ same_rule key q
key_is key q f rule tool =
    ap₂ (λ a b. a && b)
    (texts_swap q.rule.now f.rule ∙ ap (λ t. bytes_eq t q.rule.now) (sym rule))
    (texts_swap q.tool.now f.tool ∙ ap (λ t. bytes_eq t q.tool.now) (sym tool))

pub of_key : (key : RuleKey) (f : Finding) (fs : List Finding) → key.rule.now ≡ f.rule → key.tool.now ≡ f.tool
    → count_by (is_of key) fs ≡ count_by (is_alike f) fs
of_key key f fs rule tool = ap₂ (λ r t. count_by (λ g. bytes_eq r g.rule && bytes_eq t g.tool) fs) rule tool

-- one result of a key is counted
pub counted_more : {S : Type 0} (old new : HashMap RuleKey ℕ S) (key q : RuleKey) (n : ℕ)
    → get same_rule new q ≡ cond (same_rule key q) (Some n) (get same_rule old q) → n ≡ counted old key + 1
    → counted new q ≡ counted old q + (if same_rule key q then 1 else 0)
counted_more old new key q n updated next =
    ap (λ o. unwrap_or o 0) updated ∙ by (same_rule key q) (λ same. lookup_congr same_rule laws-law.congr old.entries key q same)
  where
    by : (b : Bool) → (b ≡ true → get same_rule old key ≡ get same_rule old q)
        → unwrap_or (cond b (Some n) (get same_rule old q)) 0 ≡ counted old q + (if b then 1 else 0)
    by true same = next ∙ ap (λ o. unwrap_or o 0 + 1) (same refl)
    by false same = omega arith

-- one result more is counted
pub tally_more : {S : Type 0} (results : List Finding) (old new : HashMap RuleKey ℕ S) (key : RuleKey) (f : Finding)
    → key.rule.now ≡ f.rule → key.tool.now ≡ f.tool → AreCounted results old
    → ((q : RuleKey) → counted new q ≡ counted old q + (if same_rule key q then 1 else 0)) → AreCounted (results ++ f ∷ []) new
tally_more results old new key f rule tool counts more = λ q.
    more q ∙ ap (λ n. n + (if same_rule key q then 1 else 0)) (counts q)
    ∙ ap (λ b. count_by (is_of q) results + (if b then 1 else 0)) (sym (key_is key q f rule tool))
    ∙ sym (count_more (is_of q) results f)

-- ---- steps of the code

-- one result more: it is the first of its rule if none of them was counted before
pub next_tally : {S : Type 0} (results : List Finding) (f : Finding) (key : RuleKey) (old new : HashMap RuleKey ℕ S) (before : ℕ)
    (firsts after : List Finding) → has_rule f ≡ true → key.rule.now ≡ f.rule → key.tool.now ≡ f.tool
    → firsts ≡ firsts_after [] results → AreCounted results old → before ≡ counted old key
    → ((q : RuleKey) → counted new q ≡ counted old q + (if same_rule key q then 1 else 0)) → after ≡ firsts ++ first_if before f
    → (after ≡ firsts_after [] (results ++ cond (has_rule f) (f ∷ []) [])) × AreCounted (results ++ cond (has_rule f) (f ∷ []) []) new
next_tally results f key old new before firsts after some rule tool first counts told more is =
    let number : before ≡ count_by (is_alike f) results = told ∙ counts key ∙ of_key key f results rule tool in
    let here : after ≡ firsts_after [] (results ++ f ∷ []) =
    is ∙ ap (λ l. l ++ first_if before f) first ∙ ap (λ n. firsts_after [] results ++ first_if n f) number ∙ sym (firsts_more [] results f) in
    let added : results ++ f ∷ [] ≡ results ++ cond (has_rule f) (f ∷ []) [] = ap (λ b. results ++ cond b (f ∷ []) []) (sym some) in (
      here ∙ ap (firsts_after []) added,
      subst (λ l. AreCounted l new) added (tally_more results old new key f rule tool counts more),
    )

-- a rule of the list of the code is that of the defined list
pub here_made : (made : List Made) (i k : ℕ) (m : Made) → i ≡ k → k < length made → m ≡ get_or made k m
    → (i < length (rules_in made)) × (rule_in m ≡ get_or (rules_in made) i (rule_in m))
here_made made i k m same within is = (
  omega (arith, same, within, length-map made rule_in),
  ap rule_in is ∙ sym (get_or-map rule_in made k m (rule_in m) within) ∙ ap (λ n. get_or (rules_in made) n (rule_in m)) (sym same),
)

-- the first rules stay the first ones
pub kept_again : (n : ℕ) (rs xs : List Rule) → rs ≡ take n xs → take n rs ≡ rs
kept_again n rs xs is = ap (take n) is ∙ cut_again n xs ∙ sym is

abbrev pub rule_at : Finding → ℕ → Rule
rule_at f n = record { first = f; number = n }

-- the rule that the code makes is the rule among the results
pub made_rule : (results : List Finding) (f : Finding) (n : ℕ) → n ≡ count_by (is_alike f) results → rule_at f n ≡ rule_among results f
made_rule results f n is = ap (rule_at f) is
