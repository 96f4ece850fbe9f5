-- The value of a run of an indexed log, by its parts.
use Rattle.std.proofs.Common.{◌≡◌, ℕ, zero, suc, ◌<◌, ◌≤◌, List, [], ◌∷◌, map, length, Bool, true, false, not, if◌then◌else◌, IsTrue, Option, Some, None, is_some, refl, sym, ap, ◌∙◌, arith, codes, bytes_eq, slice_index_or, option_and_then, Vec, Global}
use Rattle.std.specs.Ordering.{nat_cmp, match_ordering, is_eq}
use Rattle.std.specs.declared.cmp.Ordering.{Ordering}
use Rattle.std.specs.declared.cmp.Ordering.TheVariants.{Less, Equal, Greater}
use Rattle.std.specs.Cmp.Lexicographic.{slice_cmp}
use Rattle.std.proofs.lemmas.Map.Text.{is_eq-slice_cmp}
use Rattle.std.proofs.lemmas.Slice.Eq.{bytes_eq-Decides}
use Rattle.std.proofs.lemmas.List.{length-map}
use Rattle.json.specs.Token.{Token}
use Rattle.serde_json.specs.Data.{Data, null, boolean, number, string, array, object, Members, no_members, member, put, Items}
use Rattle.serde_json.specs.Find.{get, get_member, as_array}
use Rattle.serde_json.specs.View.{view, items_of}
use Rattle.serde_json.proofs.Views.{get_member-put, view-Array}
use Rattle.serde_json.specs.declared.value.Value.{Value}
use Rattle.serde_json.specs.declared.value.Value.TheVariants.{Array as json_array}
use Rattle.json_parts.specs.Stripping.{is_fractional, stripped, stripped_members}
use Rattle.json_parts.specs.Without.{without, without_member}
use Rattle.json_parts.specs.Internal.Ordered.{IsOrdered, IsBelow, AreMembersOrdered}
use Rattle.json_parts.proofs.Keeping.{stripping_keeps}
use Rattle.json_parts.proofs.Kept.{put_below}
use Rattle.json_parts.proofs.Order.{below_all}
use Rattle.json_parts.proofs.Stripped.{absent_below}
use Rattle.sarif_read.specs.declared.listed.Listed.{Listed}
use Rattle.sarif_read.specs.declared.listed.Listed.TheVariants.{Missing, Null, Array}
use Rattle.sarif_read.specs.declared.indexed_run.IndexedRun.{IndexedRun}
use Rattle.sarif_model.specs.Run.{results_of, results_array, result_at, elements_or_none}
use Rattle.sarif_read.specs.Internal.Bare.{bare, is_bare}
use Rattle.sarif_read.specs.Internal.Listed.{value_at, nodes_of, listed_member}
use Rattle.sarif_read.specs.Internal.Indexed.{with_member, run_of}
use Rattle.sarif_model.specs.Limits.{most_results}
use Rattle.sarif_model.proofs.Elements.{items_back}

same_name : (k l : List ℕ) → slice_cmp nat_cmp k l ≡ Equal → bytes_eq k l ≡ true
same_name k l is = sym (is_eq-slice_cmp k l) ∙ ap is_eq is

other_name : (o : Ordering) (k l : List ℕ) → slice_cmp nat_cmp k l ≡ o → bytes_eq k l ≡ is_eq o
other_name o k l is = sym (is_eq-slice_cmp k l) ∙ ap is_eq is

-- ---- a member that is put and taken out again

-- what is put at a name is taken out with that name
put_step : (o : Ordering) (r l : List ℕ) (x d : Data) (ms : Members)
    → slice_cmp nat_cmp r l ≡ o → bytes_eq r r ≡ true
    → without r (put r x ms) ≡ without r ms
    → without r (match_ordering o (member r x (member l d ms)) (member l x ms) (member l d (put r x ms))) ≡ without r (member l d ms)
put_step Less r l x d ms is same later = rw same refl
put_step Equal r l x d ms is same later = rw (same_name r l is) refl
put_step Greater r l x d ms is same later = rw (other_name Greater r l is, later) refl

equal_itself : (r : List ℕ) → bytes_eq r r ≡ true
equal_itself r = (bytes_eq-Decides r r).1 refl

pub without_put : (r : List ℕ) (x : Data) (ms : Members) → without r (put r x ms) ≡ without r ms
without_put r x no_members = rw (equal_itself r) refl
without_put r x (member l d ms) = put_step _ r l x d ms refl (equal_itself r) (without_put r x ms)

none_step : (o : Ordering) (r l : List ℕ) (d : Data) (ms : Members)
    → slice_cmp nat_cmp r l ≡ o
    → match_ordering o (get_member r ms) (Some d) (get_member r ms) ≡ None
    → (get_member r ms ≡ None → without r ms ≡ ms)
    → (if bytes_eq r l then without r ms else member l d (without r ms)) ≡ member l d ms
none_step Less r l d ms is none later = rw (other_name Less r l is) (ap (λ rest. member l d rest) (later none))
none_step Equal r l d ms is none later = cc
none_step Greater r l d ms is none later = rw (other_name Greater r l is) (ap (λ rest. member l d rest) (later none))

-- if there is no member with that name, none is taken out
pub without_none : (r : List ℕ) (ms : Members) → get_member r ms ≡ None → without r ms ≡ ms
without_none r no_members none = refl
without_none r (member l d ms) none = none_step _ r l d ms refl none (without_none r ms)

no_member : (found : Option Data) → IsTrue (not (is_some found)) → found ≡ None
no_member None h = refl
no_member (Some d) h = cc

pub bare_with : (found : Option Data) (d : Data) → IsTrue (is_bare d) → bare (with_member (codes "results") found d) ≡ d
bare_with found null h = cc
bare_with found (boolean b) h = cc
bare_with found (number n) h = cc
bare_with found (string s) h = cc
bare_with found (array ds) h = cc
bare_with None (object ms) h = ap object (without_none (codes "results") ms (no_member _ h))
bare_with (Some x) (object ms) h =
    ap object (without_put (codes "results") x ms ∙ without_none (codes "results") ms (no_member _ h))

pub get_with : (found : Option Data) (d : Data) → IsTrue (is_bare d) → get (codes "results") (with_member (codes "results") found d) ≡ found
get_with found null h = cc
get_with found (boolean b) h = cc
get_with found (number n) h = cc
get_with found (string s) h = cc
get_with found (array ds) h = cc
get_with None (object ms) h = no_member _ h
get_with (Some x) (object ms) h = get_member-put (codes "results") x ms

-- ---- the parts of a run

pub view_array : (values : Vec Value Global) → view (json_array values) ≡ array (items_of (map view values.items))
view_array values = view-Array values

pub bare_run : (run : IndexedRun) → view run.bare ≡ bare (run_of run)
bare_run run = sym (bare_with (listed_member run.results) (view run.bare) run.beside)

found_results : (run : IndexedRun) → get (codes "results") (run_of run) ≡ listed_member run.results
found_results run = get_with (listed_member run.results) (view run.bare) run.beside

-- the elements of an array that was found
pub elements_found : (values each : List Data) (found : Option Items) → values ≡ each → Some (items_of each) ≡ found → values ≡ elements_or_none found
elements_found values each found are is = are ∙ sym (items_back each) ∙ ap elements_or_none is

pub listed_values : (listed : Listed) → elements_or_none (option_and_then as_array (listed_member listed)) ≡ map value_at (nodes_of listed)
listed_values Missing = refl
listed_values Null = refl
listed_values (Array nodes) = items_back (map value_at nodes.items)

pub results_run : (run : IndexedRun) → results_of (run_of run) ≡ map value_at (nodes_of run.results)
results_run run =
    ap (λ found. elements_or_none (option_and_then as_array found)) (found_results run) ∙ listed_values run.results

pub count_results : (run : IndexedRun) → length (results_of (run_of run)) ≡ length (nodes_of run.results)
count_results run = ap length (results_run run) ∙ length-map (nodes_of run.results) value_at

pub has_array : (run : IndexedRun) → results_array (run_of run) ≡ option_and_then as_array (listed_member run.results)
has_array run = ap (option_and_then as_array) (found_results run)

-- a value that is the run has as few results
pub few_whole : (run : IndexedRun) (d : Data) → d ≡ run_of run → length (results_of d) ≤ most_results
few_whole run d is =
    let same : length (results_of d) ≡ length (nodes_of run.results) = ap (λ e. length (results_of e)) is ∙ count_results run in
    rw same run.few

nth_value : (nodes : List (List Token)) (i : ℕ) (tokens : List Token) → i < length nodes
    → slice_index_or (map value_at nodes) i null ≡ value_at (slice_index_or nodes i tokens)
nth_value [] i tokens below = absurd (omega (arith, below))
nth_value (node ∷ nodes) zero tokens below = refl
nth_value (node ∷ nodes) (suc i) tokens below = nth_value nodes i tokens (omega (arith, below))

pub nth_result : (run : IndexedRun) (i : ℕ) (tokens : List Token) → i < length (nodes_of run.results)
    → result_at (run_of run) i ≡ value_at (slice_index_or (nodes_of run.results) i tokens)
nth_result run i tokens below =
    ap (λ ds. slice_index_or ds i null) (results_run run) ∙ nth_value (nodes_of run.results) i tokens below

-- ---- a run is its parts

rebuilt_step : (o : Ordering) (r l : List ℕ) (x d : Data) (ms : Members)
    → slice_cmp nat_cmp r l ≡ o → IsBelow l ms
    → match_ordering o (get_member r ms) (Some d) (get_member r ms) ≡ Some x
    → (get_member r ms ≡ Some x → put r x (without r ms) ≡ ms)
    → put r x (if bytes_eq r l then without r ms else member l d (without r ms)) ≡ member l d ms
rebuilt_step Less r l x d ms is below found later =
    let none : get_member r ms ≡ None = absent_below r ms (below_all r l ms is below) in cc
rebuilt_step Equal r l x d ms is below found later =
    let same : r ≡ l = (bytes_eq-Decides r l).0 (same_name r l is) in
    let value : d ≡ x = cc in
    let under : IsBelow r ms = rw same below in
    rw (same_name r l is, without_none r ms (absent_below r ms under), put_below r x ms under) (cc)
rebuilt_step Greater r l x d ms is below found later =
    rw (other_name Greater r l is, is) (ap (λ rest. member l d rest) (later found))

rebuilt_members : (r : List ℕ) (x : Data) (ms : Members) → AreMembersOrdered ms → get_member r ms ≡ Some x → put r x (without r ms) ≡ ms
rebuilt_members r x no_members ordered found = cc
rebuilt_members r x (member l d ms) ordered found =
    rebuilt_step _ r l x d ms refl ordered.0 found (rebuilt_members r x ms ordered.2)

found_in : (r : List ℕ) (ms : Members) → AreMembersOrdered ms → (found : Option Data) → get_member r ms ≡ found
    → with_member r found (object (without r ms)) ≡ object ms
found_in r ms ordered None is = ap object (without_none r ms is)
found_in r ms ordered (Some x) is = ap object (rebuilt_members r x ms ordered is)

-- a value is what is left without a member, and that member
pub rebuilt : (r : List ℕ) (d : Data) → IsOrdered d → with_member r (get r d) (without_member r d) ≡ d
rebuilt r null ordered = refl
rebuilt r (boolean b) ordered = refl
rebuilt r (number n) ordered = refl
rebuilt r (string s) ordered = refl
rebuilt r (array ds) ordered = refl
rebuilt r (object ms) ordered = found_in r ms ordered (get_member r ms) refl

-- ---- stripping keeps the order of names

below_if : (b : Bool) (k l : List ℕ) (d : Data) (ms : Members) → slice_cmp nat_cmp k l ≡ Less → IsBelow k ms → IsBelow k (if b then ms else member l d ms)
below_if true k l d ms less below = below
below_if false k l d ms less below = (less, below)

below_stripped : (k : List ℕ) (ms : Members) → IsBelow k ms → IsBelow k (stripped_members ms)
below_stripped k no_members below = tt
below_stripped k (member l d ms) below =
    below_if (is_fractional d) k l (stripped d) (stripped_members ms) below.0 (below_stripped k ms below.1)

-- the names in a value that is stripped rise
pub stripped_ordered : (d : Data) → IsOrdered d → IsOrdered (stripped d)
stripped_ordered = stripping_keeps IsOrdered (record {
  parts = λ d ds is. is;
  whole = λ d ds first rest. (first, rest);
  inner = λ k d ms is. (is.1, is.2);
  outer = λ k d ms is first rest. (below_stripped k ms is.0, first, rest);
})
