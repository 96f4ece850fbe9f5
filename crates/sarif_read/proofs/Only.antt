-- A run with other results: what is the same, and its results.
use Rattle.std.proofs.Common.{◌≡◌, ◌≤◌, Bool, true, false, List, [], ◌∷◌, map, length, Option, Some, None, option_map, option_and_then, refl, sym, ap, ◌∙◌, subst, arith, codes, IsTrue}
use Rattle.std.specs.List.{list_any}
use Rattle.json_parts.proofs.Keeping.{put_whole}
use Rattle.serde_json.specs.Data.{Data, null, boolean, number, string, array, object, Items, put}
use Rattle.serde_json.specs.Find.{get_member, as_array}
use Rattle.serde_json.specs.View.{view, items_of}
use Rattle.serde_json.specs.Written.{has_float, items_have_float}
use Rattle.serde_json.proofs.Views.{get_member-put}
use Rattle.sarif_model.proofs.Elements.{items_back}
use Rattle.sarif_model.proofs.PutAgain.{put_put}
use Rattle.sarif_model.specs.Members.{elements}
use Rattle.sarif_model.specs.Run.{elements_or_none, results_array, results_of}
use Rattle.sarif_read.specs.declared.listed.Listed.{Listed}
use Rattle.sarif_read.specs.declared.listed.Listed.TheVariants.{Missing, Null, Array}
use Rattle.sarif_read.specs.declared.indexed_run.IndexedRun.{IndexedRun}
use Rattle.sarif_read.specs.Unmarked.{unmarked, with_array, with_only, without_marked}
use Rattle.sarif_read.specs.Internal.Bare.{bare, is_bare}
use Rattle.sarif_read.specs.Internal.Listed.{value_at, nodes_of, listed_member, IsKept}
use Rattle.sarif_read.specs.Internal.Indexed.{with_member, run_of}
use Rattle.sarif_read.proofs.RunOf.{results_run, has_array, without_put}
use Rattle.sarif_read.proofs.WholeRuns.{any_element, found_whole, runs_whole}
use Rattle.std.proofs.lemmas.Bool.{or_parts}

-- ---- lists without their marked elements

pub unmarked_map : {X Y : Type 0} (f : X → Y) (marks : List Bool) (xs : List X) → unmarked marks (map f xs) ≡ map f (unmarked marks xs)
unmarked_map f [] xs = refl
unmarked_map f (mark ∷ marks) [] = refl
unmarked_map f (true ∷ marks) (x ∷ xs) = unmarked_map f marks xs
unmarked_map f (false ∷ marks) (x ∷ xs) = ap (λ ys. f x ∷ ys) (unmarked_map f marks xs)

pub unmarked_few : {X : Type 0} (marks : List Bool) (xs : List X) → length (unmarked marks xs) ≤ length xs
unmarked_few [] [] = omega arith
unmarked_few [] (x ∷ xs) = omega arith
unmarked_few (mark ∷ marks) [] = omega arith
unmarked_few (true ∷ marks) (x ∷ xs) = let rest = unmarked_few marks xs in omega (arith, rest)
unmarked_few (false ∷ marks) (x ∷ xs) = let rest = unmarked_few marks xs in omega (arith, rest)

-- ---- a run with other results

some_same : (ds es : Items) → Some ds ≡ Some es → ds ≡ es
some_same ds es is = cc

results_whole : (run : Data) → has_float run ≡ false → list_any has_float (results_of run) ≡ false
results_whole null whole = refl
results_whole (boolean b) whole = refl
results_whole (number n) whole = refl
results_whole (string s) whole = refl
results_whole (array ds) whole = refl
results_whole (object ms) whole = runs_whole (get_member (codes "results") ms) (found_whole (codes "results") ms whole)

-- members but its results are the same
pub bare_only : (ds : List Data) (run : Data) → bare (with_only ds run) ≡ bare run
bare_only ds run = at (option_map (λ _. items_of ds) (results_array run)) run where
  at : (found : Option Items) (d : Data) → bare (with_array found d) ≡ bare d
  at None d = refl
  at (Some es) null = refl
  at (Some es) (boolean b) = refl
  at (Some es) (number n) = refl
  at (Some es) (string s) = refl
  at (Some es) (array other) = refl
  at (Some es) (object ms) = ap object (without_put (codes "results") (array es) ms)

-- the results of the new run are these, if the run has an array of results
pub array_only : (ds : List Data) (run : Data) → results_array (with_only ds run) ≡ option_map (λ _. items_of ds) (results_array run)
array_only ds null = refl
array_only ds (boolean b) = refl
array_only ds (number n) = refl
array_only ds (string s) = refl
array_only ds (array es) = refl
array_only ds (object ms) = at (results_array (object ms)) refl where
  at : (found : Option Items) → results_array (object ms) ≡ found
      → results_array (with_array (option_map (λ _. items_of ds) found) (object ms)) ≡ option_map (λ _. items_of ds) found
  at None is = is
  at (Some es) is = ap (option_and_then as_array) (get_member-put (codes "results") (array (items_of ds)) ms)

-- the results of a run without its marked results are those that aren't marked
pub results_without : (marks : List Bool) (run : Data) → results_of (without_marked marks run) ≡ unmarked marks (results_of run)
results_without marks run = ap elements_or_none (array_only (unmarked marks (results_of run)) run) ∙ at marks (results_array run) where
  at : (marks : List Bool) (found : Option Items)
      → elements_or_none (option_map (λ _. items_of (unmarked marks (elements_or_none found))) found) ≡ unmarked marks (elements_or_none found)
  at [] None = refl
  at (mark ∷ marks) None = refl
  at marks (Some es) = items_back (unmarked marks (elements es))

-- no number with a fraction comes in
float_with : (found : Option Items) (d : Data) → (items : (es : Items) → found ≡ Some es → items_have_float es ≡ false) → has_float d ≡ false
    → has_float (with_array found d) ≡ false
float_with None d items whole = whole
float_with (Some es) null items whole = refl
float_with (Some es) (boolean b) items whole = refl
float_with (Some es) (number n) items whole = whole
float_with (Some es) (string s) items whole = refl
float_with (Some es) (array other) items whole = whole
float_with (Some es) (object ms) items whole = put_whole (codes "results") (array es) ms (items es refl) whole

both_whole : (d : Data) (ds : List Data) → has_float d ≡ false → list_any has_float ds ≡ false → list_any has_float (d ∷ ds) ≡ false
both_whole d ds of_d of_ds = rw (of_d, of_ds)

unmarked_whole : (marks : List Bool) (ds : List Data) → list_any has_float ds ≡ false → list_any has_float (unmarked marks ds) ≡ false
unmarked_whole [] ds whole = refl
unmarked_whole (mark ∷ marks) [] whole = refl
unmarked_whole (true ∷ marks) (d ∷ ds) whole = unmarked_whole marks ds (or_parts (has_float d) (list_any has_float ds) whole).1
unmarked_whole (false ∷ marks) (d ∷ ds) whole =
    let parts = or_parts (has_float d) (list_any has_float ds) whole in
    both_whole d (unmarked marks ds) parts.0 (unmarked_whole marks ds parts.1)

items_whole : (ds : List Data) → list_any has_float ds ≡ false → items_have_float (items_of ds) ≡ false
items_whole ds whole = sym (any_element (items_of ds)) ∙ ap (list_any has_float) (items_back ds) ∙ whole

pub only_float : (ds : List Data) (run : Data) → list_any has_float ds ≡ false → has_float run ≡ false → has_float (with_only ds run) ≡ false
only_float ds run of_ds whole =
    float_with (option_map (λ _. items_of ds) (results_array run)) run (λ es is. of_these (results_array run) es is) whole where
      of_these : (found : Option Items) (es : Items) → option_map (λ _. items_of ds) found ≡ Some es → items_have_float es ≡ false
      of_these None es is = cc
      of_these (Some other) es is = subst (λ e. items_have_float e ≡ false) (some_same (items_of ds) es is) (items_whole ds of_ds)

pub results_float : (marks : List Bool) (run : Data) → has_float run ≡ false → has_float (without_marked marks run) ≡ false
results_float marks run whole = only_float (unmarked marks (results_of run)) run (unmarked_whole marks (results_of run) (results_whole run whole)) whole

-- ---- an indexed run

put_again : (d : Data) (found : Option Items) (es : Items) (x : Data) → IsTrue (is_bare d) → found ≡ Some es
    → with_member (codes "results") (Some (array es)) d ≡ with_array found (with_member (codes "results") (Some x) d)
put_again null found es x is some = cc
put_again (boolean b) found es x is some = cc
put_again (number n) found es x is some = cc
put_again (string s) found es x is some = cc
put_again (array other) found es x is some = cc
put_again (object ms) found es x is some =
    ap object (sym (put_put (codes "results") (array es) x ms))
    ∙ sym (ap (λ f. with_array f (object (put (codes "results") x ms))) some)

-- the run with the results that are left, by its parts
pub run_without : (marks : List Bool) (run : IndexedRun) (kept : Listed) → IsKept marks run.results kept
    → with_member (codes "results") (listed_member kept) (view run.bare) ≡ without_marked marks (run_of run)
run_without marks run kept is = at run.results kept refl is where
  same : (found : Option Items) → results_array (run_of run) ≡ found → found ≡ None → run_of run ≡ without_marked marks (run_of run)
  same found is none = sym (ap (λ f. with_array (option_map (λ _. items_of (unmarked marks (results_of (run_of run)))) f) (run_of run)) (is ∙ none))

  at : (old new : Listed) → run.results ≡ old → IsKept marks old new
      → with_member (codes "results") (listed_member new) (view run.bare) ≡ without_marked marks (run_of run)
  at Missing new was is =
      ap (λ l. with_member (codes "results") (listed_member l) (view run.bare)) (is ∙ sym was)
      ∙ same _ (has_array run) (ap (λ l. option_and_then as_array (listed_member l)) was)
  at Null new was is =
      ap (λ l. with_member (codes "results") (listed_member l) (view run.bare)) (is ∙ sym was)
      ∙ same _ (has_array run) (ap (λ l. option_and_then as_array (listed_member l)) was)
  at (Array nodes) Missing was is = absurd is
  at (Array nodes) Null was is = absurd is
  at (Array nodes) (Array rest) was is =
      let all = items_of (map value_at nodes.items) in
      let found : results_array (run_of run) ≡ Some all = has_array run ∙ ap (λ l. option_and_then as_array (listed_member l)) was in
      let some : option_map (λ _. items_of (unmarked marks (results_of (run_of run)))) (results_array (run_of run)) ≡ Some (items_of (map value_at rest.items)) =
      ap (option_map (λ _. items_of (unmarked marks (results_of (run_of run))))) found
      ∙ ap (λ ds. Some (items_of (unmarked marks ds))) (results_run run ∙ ap (λ l. map value_at (nodes_of l)) was)
      ∙ ap (λ ds. Some (items_of ds)) (unmarked_map value_at marks nodes.items ∙ sym (ap (map value_at) is)) in
      put_again (view run.bare) _ (items_of (map value_at rest.items)) (array all) run.beside some
      ∙ sym (ap (λ l. with_array (option_map (λ _. items_of (unmarked marks (results_of (run_of run)))) (results_array (run_of run)))
      (with_member (codes "results") (listed_member l) (view run.bare))) was)

-- the kept list is at most as long
pub few_kept : (marks : List Bool) (old new : Listed) → IsKept marks old new → length (nodes_of new) ≤ length (nodes_of old)
few_kept marks Missing new is = rw is (omega arith)
few_kept marks Null new is = rw is (omega arith)
few_kept marks (Array nodes) Missing is = absurd is
few_kept marks (Array nodes) Null is = absurd is
few_kept marks (Array nodes) (Array kept) is = rw is (unmarked_few marks nodes.items)
