-- What is inside of a change by its lines is inside by its files, and stays inside if the change grows.
use Rattle.std.proofs.Common.{◌≡◌, ◌≤◌, ◌+◌, ℕ, Bool, true, false, not, ◌&&◌, ◌||◌, List, [], ◌∷◌, ◌++◌, map, Option, Some, None, cond, refl, sym, ap, subst, ◌∙◌, arith}
use Rattle.std.specs.Prelude.{count_by, nat_le}
use Rattle.std.specs.List.{fold, list_any, list_all}
use Rattle.std.proofs.lemmas.Bool.Decides.{nat_tests}
use Rattle.sarif_diff.specs.declared.section.Section.{Section}
use Rattle.sarif_diff.specs.declared.section.Span.{Span}
use Rattle.sarif_model.specs.declared.region.Region.{Region}
use Rattle.sarif_change.specs.Joined.{has_name, is_shared, joined_among, names_of, sections_joined}
use Rattle.sarif_change.specs.Meeting.{touches, changes, may_be, meets}
use Rattle.sarif_change.specs.Outside.{are_missed, is_met, is_missed, is_outside, lines_in}
use Rattle.sarif_change.specs.declared.spots.Scope.{Scope}
use Rattle.sarif_change.specs.declared.spots.Scope.TheVariants.{Lines, Files}
use Rattle.sarif_change.specs.declared.spots.Spot.{Spot}
use Rattle.sarif_change.specs.declared.spots.Spots.{Spots}

-- ---- one test implies another

abbrev pub Implies : Bool → Bool → Type 0
Implies a b = a ≡ true → b ≡ true

or_true : (a : Bool) → (a || true) ≡ true
or_true true = refl
or_true false = refl

or_more : (a b x y : Bool) → Implies a x → Implies b y → Implies (a || b) (x || y)
or_more true b x y f g is = rw (f refl) refl
or_more false b x y f g is = ap (λ t. x || t) (g is) ∙ or_true x

and_more : (a b x y : Bool) → Implies a x → Implies b y → Implies (a && b) (x && y)
and_more true b x y f g is = rw (f refl) (g is)
and_more false b x y f g is = cc

not_more : (a x : Bool) → Implies a x → Implies (not x) (not a)
not_more true x f is = ap not (sym (f refl)) ∙ is
not_more false x f is = refl

any_more : {X : Type 0} (p q : X → Bool) → ((x : X) → Implies (p x) (q x)) → (xs : List X) → Implies (list_any p xs) (list_any q xs)
any_more p q more [] is = is
any_more p q more (x ∷ xs) is = or_more (p x) (list_any p xs) (q x) (list_any q xs) (more x) (any_more p q more xs) is

all_more : {X : Type 0} (p q : X → Bool) → ((x : X) → Implies (p x) (q x)) → (xs : List X) → Implies (list_all p xs) (list_all q xs)
all_more p q more [] is = is
all_more p q more (x ∷ xs) is = and_more (p x) (list_all p xs) (q x) (list_all q xs) (more x) (all_more p q more xs) is

three_more : (a b c x y : Bool) → Implies a x → Implies b y → Implies (a && b && c) (x && y && c)
three_more true true c x y f g is = rw (f refl, g refl) is
three_more true false c x y f g is = cc
three_more false b c x y f g is = cc

-- ---- what meets more leaves less outside

module _ (sections grown : List Section) (roots : List (List ℕ)) (scope wider : Scope)
    (more : (uri : List ℕ) (region : Option Region)
    → Implies (meets sections roots uri (lines_in scope region)) (meets grown roots uri (lines_in wider region))) where
  met_by : (uri : Option (List ℕ)) (region : Option Region)
      → Implies (is_met sections roots scope (record { uri = uri; region = region })) (is_met grown roots wider (record { uri = uri; region = region }))
  met_by None region is = is
  met_by (Some uri) region is = more uri region is

  missed_by : (uri : Option (List ℕ)) (region : Option Region)
      → Implies (is_missed grown roots wider (record { uri = uri; region = region })) (is_missed sections roots scope (record { uri = uri; region = region }))
  missed_by None region is = is
  missed_by (Some uri) region is =
      not_more (meets sections roots uri (lines_in scope region)) (meets grown roots uri (lines_in wider region)) (more uri region) is

  all_missed : (spots : List Spot) → Implies (are_missed grown roots wider spots) (are_missed sections roots scope spots)
  all_missed [] is = is
  all_missed (spot ∷ spots) is =
      all_more (is_missed grown roots wider) (is_missed sections roots scope) (λ s. missed_by s.uri s.region) (spot ∷ spots) is

  outside_more : (spots : Spots) → Implies (is_outside grown roots wider spots) (is_outside sections roots scope spots)
  outside_more spots is =
      three_more (are_missed grown roots wider spots.locations) (not (list_any (is_met grown roots wider) spots.others)) (not spots.elsewhere)
      (are_missed sections roots scope spots.locations) (not (list_any (is_met sections roots scope) spots.others))
      (all_missed spots.locations)
      (not_more (list_any (is_met sections roots scope) spots.others) (list_any (is_met grown roots wider) spots.others)
      (any_more (is_met sections roots scope) (is_met grown roots wider) (λ s. met_by s.uri s.region) spots.others)) is

-- ---- scopes

changed_in_files : (lines : Option Span) (s : Section) → Implies (changes lines s) (changes None s)
changed_in_files lines s is = refl

pub by_files : (sections : List Section) (roots : List (List ℕ)) (spots : Spots)
    → Implies (is_outside sections roots Files spots) (is_outside sections roots Lines spots)
by_files sections roots spots is =
    outside_more sections sections roots Lines Files
    (λ uri region. any_more (λ s. may_be roots uri s && changes (lines_in Lines region) s) (λ s. may_be roots uri s && changes None s)
    (λ s. and_more (may_be roots uri s) (changes (lines_in Lines region) s) (may_be roots uri s) (changes None s) (λ h. h)
    (changed_in_files (lines_in Lines region) s)) sections) spots is

-- ---- more sections

fold_onto : (p : Section → Bool) (n : ℕ) (xs ys : List Section)
    → fold (λ a x. a + cond (p x) 1 0) n (xs ++ ys) ≡ fold (λ a x. a + cond (p x) 1 0) (fold (λ a x. a + cond (p x) 1 0) n xs) ys
fold_onto p n [] ys = refl
fold_onto p n (x ∷ xs) ys = fold_onto p (n + cond (p x) 1 0) xs ys

fold_grows : (p : Section → Bool) (n : ℕ) (ys : List Section) → n ≤ fold (λ a x. a + cond (p x) 1 0) n ys
fold_grows p n [] = omega arith
fold_grows p n (y ∷ ys) = let more = fold_grows p (n + cond (p y) 1 0) ys in omega (arith, more)

counts_more : (p : Section → Bool) (xs ys : List Section) → count_by p xs ≤ count_by p (xs ++ ys)
counts_more p xs ys = subst (λ n. count_by p xs ≤ n) (sym (fold_onto p 0 xs ys)) (fold_grows p (count_by p xs) ys)

twice_more : (a b : ℕ) → a ≤ b → Implies (nat_le 2 a) (nat_le 2 b)
twice_more a b more is = grind (arith, nat_tests)

shared_more : (before more : List Section) (name : List ℕ) → Implies (is_shared before name) (is_shared (before ++ more) name)
shared_more before more name is =
    twice_more (count_by (has_name name) before) (count_by (has_name name) (before ++ more)) (counts_more (has_name name) before more) is

module _ (before more : List Section) (roots : List (List ℕ)) (uri : List ℕ) (lines : Option Span) where
  changed_more : (lines : Option Span) (s : Section)
      → Implies (changes lines (joined_among before s)) (changes lines (joined_among (before ++ more) s))
  changed_more None s is = is
  changed_more (Some asked) s is =
      or_more (s.whole || list_any (is_shared before) (names_of s)) (list_any (touches asked) s.spans)
      (s.whole || list_any (is_shared (before ++ more)) (names_of s)) (list_any (touches asked) s.spans)
      (or_more s.whole (list_any (is_shared before) (names_of s)) s.whole (list_any (is_shared (before ++ more)) (names_of s)) (λ h. h)
      (any_more (is_shared before) (is_shared (before ++ more)) (shared_more before more) (names_of s))) (λ h. h) is

  met_more : (xs : List Section) → Implies (meets (map (joined_among before) xs) roots uri lines)
      (meets (map (joined_among (before ++ more)) (xs ++ more)) roots uri lines)
  met_more [] is = cc
  met_more (x ∷ xs) is =
      or_more (may_be roots uri x && changes lines (joined_among before x)) (meets (map (joined_among before) xs) roots uri lines)
      (may_be roots uri x && changes lines (joined_among (before ++ more) x)) (meets (map (joined_among (before ++ more)) (xs ++ more)) roots uri lines)
      (and_more (may_be roots uri x) (changes lines (joined_among before x)) (may_be roots uri x) (changes lines (joined_among (before ++ more) x))
      (λ h. h) (changed_more lines x)) (met_more xs) is

pub by_growth : (before more : List Section) (roots : List (List ℕ)) (scope : Scope) (spots : Spots)
    → Implies (is_outside (sections_joined (before ++ more)) roots scope spots) (is_outside (sections_joined before) roots scope spots)
by_growth before more roots scope spots is =
    outside_more (sections_joined before) (sections_joined (before ++ more)) roots scope scope
    (λ uri region. met_more before more roots uri (lines_in scope region) before) spots is
