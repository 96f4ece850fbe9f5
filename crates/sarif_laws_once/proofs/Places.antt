-- The runs of a log without the results at the places of copies.
use Rattle.std.proofs.Common.{◌≡◌, ◌+◌, ◌≤◌, ◌<◌, ℕ, zero, suc, Bool, true, false, ◌&&◌, ◌||◌, List, [], ◌∷◌, ◌++◌, map, length, refl, sym, ap, ap₂, ◌∙◌, arith}
use Rattle.std.specs.Prelude.{◌==◌}
use Rattle.std.specs.List.{AllZip, range_with_len}
use Rattle.std.proofs.lemmas.Bool.Decides.{nat_tests}
use Rattle.serde_json.specs.Data.{Data}
use Rattle.sarif_model.specs.Run.{results_of}
use Rattle.sarif_read.specs.Unmarked.{without_marked}
use Rattle.sarif_log.specs.Copies.{place_if, places_from, places_in}
use Rattle.sarif_log.specs.declared.copies.CopyPlace.{CopyPlace}
use Rattle.sarif_laws_once.specs.Places.{is_at, without_places}

-- each run without its marked results
abbrev pub each_without : List (List Bool) → List Data → List Data
each_without [] runs = []
each_without (marks ∷ more) [] = []
each_without (marks ∷ more) (run ∷ runs) = without_marked marks run ∷ each_without more runs

-- a list has as many marks as a run has results
abbrev pub IsMarked : List Bool → Data → Type 0
IsMarked marks run = length marks ≡ length (results_of run)

-- ---- places of two lists

pub at_both : (places more : List CopyPlace) (k n : ℕ) → is_at (places ++ more) k n ≡ (is_at places k n || is_at more k n)
at_both [] more k n = refl
at_both (place ∷ places) more k n =
    ap (λ b. ((place.run == k) && (place.result == n)) || b) (at_both places more k n)
    ∙ or_assoc ((place.run == k) && (place.result == n)) (is_at places k n) (is_at more k n) where
      or_assoc : (a b c : Bool) → (a || (b || c)) ≡ ((a || b) || c)
      or_assoc true b c = refl
      or_assoc false b c = refl

-- ---- places of one run

not_same : (a b : ℕ) → a < b → (a == b) ≡ false
not_same a b less = grind (arith, nat_tests)

not_same_above : (a b : ℕ) → b < a → (a == b) ≡ false
not_same_above a b less = grind (arith, nat_tests)

same : (a : ℕ) → (a == a) ≡ true
same a = grind (arith, nat_tests)

-- another run has none of them
other_run : (run k n m : ℕ) (marks : List Bool) → (run == k) ≡ false → is_at (places_in run m marks) k n ≡ false
other_run run k n m [] other = refl
other_run run k n m (true ∷ marks) other =
    ap (λ b. (b && (m == n)) || is_at (places_in run (m + 1) marks) k n) other ∙ other_run run k n (m + 1) marks other
other_run run k n m (false ∷ marks) other = other_run run k n (m + 1) marks other

-- none is before the first
before_first : (run n m : ℕ) (marks : List Bool) → n < m → is_at (places_in run m marks) run n ≡ false
before_first run n m [] less = refl
before_first run n m (true ∷ marks) less =
    ap₂ (λ a b. (a && b) || is_at (places_in run (m + 1) marks) run n) (same run) (not_same_above m n less)
    ∙ before_first run n (m + 1) marks (omega (arith, less))
before_first run n m (false ∷ marks) less = before_first run n (m + 1) marks (omega (arith, less))

map_from : (f g : ℕ → Bool) (a n : ℕ) → ((k : ℕ) → a ≤ k → f k ≡ g k) → map f (range_with_len a n) ≡ map g (range_with_len a n)
map_from f g a zero are = refl
map_from f g a (suc n) are =
    ap₂ (λ b bs. b ∷ bs) (are a (omega arith)) (map_from f g (a + 1) n (λ k le. are k (omega (arith, le))))

-- the first result is at a place if it is marked
first_place : (mark : Bool) (run m : ℕ) (marks : List Bool) → is_at (place_if mark run m (places_in run (m + 1) marks)) run m ≡ mark
first_place true run m marks = ap₂ (λ a b. (a && b) || is_at (places_in run (m + 1) marks) run m) (same run) (same m)
first_place false run m marks = before_first run m (m + 1) marks (omega arith)

later_place : (mark : Bool) (run m n : ℕ) (marks : List Bool) → m + 1 ≤ n
    → is_at (place_if mark run m (places_in run (m + 1) marks)) run n ≡ is_at (places_in run (m + 1) marks) run n
later_place true run m n marks le =
    ap₂ (λ a b. (a && b) || is_at (places_in run (m + 1) marks) run n) (same run) (not_same m n (omega (arith, le)))
later_place false run m n marks le = refl

own_marks : (run m : ℕ) (marks : List Bool) → map (is_at (places_in run m marks) run) (range_with_len m (length marks)) ≡ marks
own_marks run m [] = refl
own_marks run m (mark ∷ marks) =
    ap₂ (λ b bs. b ∷ bs) (first_place mark run m marks)
    (map_from (is_at (place_if mark run m (places_in run (m + 1) marks)) run) (is_at (places_in run (m + 1) marks) run) (m + 1) (length marks)
    (λ n le. later_place mark run m n marks le)
    ∙ own_marks run (m + 1) marks)

-- ---- places of runs

pub below_first : (run k n : ℕ) (all : List (List Bool)) → k < run → is_at (places_from run all) k n ≡ false
below_first run k n [] less = refl
below_first run k n (marks ∷ more) less =
    at_both (places_in run 0 marks) (places_from (run + 1) more) k n
    ∙ ap₂ (λ a b. a || b) (other_run run k n 0 marks (not_same_above run k less)) (below_first (run + 1) k n more (omega (arith, less)))

pub above_last : (run k n : ℕ) (all : List (List Bool)) → run + length all ≤ k → is_at (places_from run all) k n ≡ false
above_last run k n [] le = refl
above_last run k n (marks ∷ more) le =
    at_both (places_in run 0 marks) (places_from (run + 1) more) k n
    ∙ ap₂ (λ a b. a || b) (other_run run k n 0 marks (not_same run k (omega (arith, le)))) (above_last (run + 1) k n more (omega (arith, le)))

-- these places of the runs from k on are those of these marks
abbrev ArePlacesOf : List CopyPlace → ℕ → List (List Bool) → Type 0
ArePlacesOf places k all = (j n : ℕ) → k ≤ j → j < k + length all → is_at places j n ≡ is_at (places_from k all) j n

later_of : (places : List CopyPlace) (k : ℕ) (marks : List Bool) (more : List (List Bool)) → ArePlacesOf places k (marks ∷ more)
    → ArePlacesOf places (k + 1) more
later_of places k marks more are j n le less =
    are j n (omega (arith, le)) (omega (arith, less))
    ∙ at_both (places_in k 0 marks) (places_from (k + 1) more) j n
    ∙ ap (λ b. b || is_at (places_from (k + 1) more) j n) (other_run k j n 0 marks (not_same k j (omega (arith, le))))

or_none : (b : Bool) → (b || false) ≡ b
or_none true = refl
or_none false = refl

here_of : (places : List CopyPlace) (k n : ℕ) (marks : List Bool) (more : List (List Bool)) → ArePlacesOf places k (marks ∷ more)
    → is_at places k n ≡ is_at (places_in k 0 marks) k n
here_of places k n marks more are =
    are k n (omega arith) (omega arith)
    ∙ at_both (places_in k 0 marks) (places_from (k + 1) more) k n
    ∙ ap (λ b. is_at (places_in k 0 marks) k n || b) (below_first (k + 1) k n more (omega arith))
    ∙ or_none (is_at (places_in k 0 marks) k n)

pub places_out : (places : List CopyPlace) (k : ℕ) (all : List (List Bool)) (runs : List Data) → AllZip IsMarked all runs
    → ArePlacesOf places k all → without_places places k runs ≡ each_without all runs
places_out places k [] [] marked are = refl
places_out places k [] (run ∷ runs) marked are = absurd marked
places_out places k (marks ∷ more) [] marked are = absurd marked
places_out places k (marks ∷ more) (run ∷ runs) marked are =
    ap₂ (λ ms ds. without_marked ms run ∷ ds)
    (ap (λ n. map (is_at places k) (range_with_len 0 n)) (sym marked.0)
    ∙ map_from (is_at places k) (is_at (places_in k 0 marks) k) 0 (length marks) (λ n le. here_of places k n marks more are)
    ∙ own_marks k 0 marks)
    (places_out places (k + 1) more runs marked.1 (later_of places k marks more are))

-- places of runs and then of others
pub first_of : (one other : List (List Bool)) → ArePlacesOf (places_from 0 one ++ places_from (length one) other) 0 one
first_of one other j n le less =
    at_both (places_from 0 one) (places_from (length one) other) j n
    ∙ ap (λ b. is_at (places_from 0 one) j n || b) (below_first (length one) j n other (omega (arith, less)))
    ∙ or_none (is_at (places_from 0 one) j n)

pub second_of : (one other : List (List Bool)) → ArePlacesOf (places_from 0 one ++ places_from (length one) other) (length one) other
second_of one other j n le less =
    at_both (places_from 0 one) (places_from (length one) other) j n
    ∙ ap (λ b. b || is_at (places_from (length one) other) j n) (above_last 0 j n one (omega (arith, le)))
