-- Runs without the fingerprints that are ignored in them, and runs with other names ignored.
use Rattle.std.proofs.Common.{◌≡◌, ◌+◌, ◌&&◌, ◌||◌, ℕ, zero, suc, Bool, true, false, not, List, [], ◌∷◌, ◌++◌, map, length, drop, Option, Some, None, option_map, is_some, refl, sym, ap, ap₂, subst, ◌∙◌, arith}
use Rattle.std.specs.Prelude.{Result, Ok, Err, if◌then◌else◌, slice_index_or}
use Rattle.std.specs.List.{AllByRecursion, list_any, range_with_len}
use Rattle.std.proofs.lemmas.List.{drop_all, drop_more, length-map}
use Rattle.serde_json.specs.Data.{Data, null, Items}
use Rattle.serde_json.specs.View.{items_of as json_items}
use Rattle.sarif_model.specs.declared.fault.Fault.{Fault}
use Rattle.sarif_model.specs.declared.merge_fault.At.{At}
use Rattle.sarif_model.specs.declared.merge_fault.At.TheVariants.{Single}
use Rattle.sarif_model.specs.declared.merge_fault.Source.{Source}
use Rattle.sarif_model.specs.declared.record.Record.{Record}
use Rattle.sarif_model.specs.Driver.{tool_name}
use Rattle.sarif_model.specs.Members.{◌>>=◌, elements, result_map}
use Rattle.sarif_model.specs.Run.{elements_or_none, is_absent_result, results_array, results_of}
use Rattle.sarif_model.proofs.Elements.{items_back}
use Rattle.sarif_members.specs.declared.parts.Parts.{Parts}
use Rattle.sarif_members.specs.OwnMembers.{parts_of}
use Rattle.sarif_read.specs.Failed.{failed, invocations_in, is_unsuccessful}
use Rattle.sarif_read.specs.Unmarked.{with_only}
use Rattle.sarif_read.proofs.Beside.{bare_unsuccessful}
use Rattle.sarif_read.proofs.Only.{array_only, bare_only}
use Rattle.sarif_read.proofs.WholeRuns.{bind_ok}
use Rattle.sarif_runs.specs.declared.head.RunHead.{RunHead}
use Rattle.sarif_runs.specs.declared.item.Item.{Item}
use Rattle.sarif_runs.specs.declared.item.Item.TheVariants.{Sound, Bad, Skipped}
use Rattle.sarif_runs.specs.declared.run_options.RecordOptions.{RecordOptions}
use Rattle.sarif_runs.specs.Descriptor.{descriptor_of, reference_of}
use Rattle.sarif_runs.specs.Head.{head_of}
use Rattle.sarif_runs.specs.Ignoring.{without_names}
use Rattle.sarif_runs.specs.Internal.Found.{record_item}
use Rattle.sarif_runs.specs.Judging.{fault_of, faults_of_runs, first_bad, item_by, items_of, opened_of, opened_or, opening_fault, records_in, run_faults, skips}
use Rattle.sarif_runs.specs.Level.{level_of}
use Rattle.sarif_runs.specs.Place.{place_of}
use Rattle.sarif_runs.specs.Placed.{Placed}
use Rattle.sarif_runs.specs.Record.{record_by, record_in, record_of}
use Rattle.sarif_runs.proofs.NoneNamed.{none_named}
use Rattle.sarif_runs.proofs.Unmarked.{head_only, tool_only}
use Rattle.sarif_runs_laws.specs.Ignoring.{AreReadWithout, ignoring, result_without, run_without, without_ignored}
use Rattle.sarif_runs_laws.proofs.Fingerprints.{alike_beside, fingerprints_without}
use Rattle.sarif_members.proofs.AlikeMembers.{absent_same}
use Rattle.sarif_runs_laws.proofs.Members.{fingerprints_read, parts_fewer, parts_without}

-- ---- lists

-- what is made of the elements of a list by their positions
from : {X Y : Type 0} (f : X → Y) (none : X) (xs : List X) (a n : ℕ) → a + n ≡ length xs
    → map (λ i. f (slice_index_or xs i none)) (range_with_len a n) ≡ map f (drop a xs)
from f none xs a zero same = ap (map f) (sym (drop_all a xs (omega (arith, same))))
from f none xs a (suc n) same =
    ap (λ ys. f (slice_index_or xs a none) ∷ ys) (from f none xs (a + 1) n (omega (arith, same)))
    ∙ sym (ap (map f) (drop_more xs a none (omega (arith, same))))

by_position : {X Y : Type 0} (f : X → Y) (none : X) (xs : List X) → map (λ i. f (slice_index_or xs i none)) (range_with_len 0 (length xs)) ≡ map f xs
by_position f none xs = from f none xs 0 (length xs) (omega arith)

both_empty : {X : Type 0} (xs ys : List X) → xs ++ ys ≡ [] → (xs ≡ []) × (ys ≡ [])
both_empty [] ys is = (refl, is)
both_empty (x ∷ xs) ys is = let never : ⊥ = cc in absurd never

-- ---- the record of a result

record_fewer : (names : List (List ℕ)) (head : RunHead) (tool : List ℕ) (parts : Parts)
    → record_by [] head tool (parts_without names parts) ≡ record_by names head tool parts
unfolding record_by
record_fewer names head tool parts =
    rw (
      sym (none_named [] (without_names names parts.full) refl),
      sym (none_named [] (without_names names parts.partial) refl),
    ) refl

module _ (names : List (List ℕ)) (regions : Bool) where
  abbrev now : RecordOptions
  now = record { regions = regions; ignored = names }

  abbrev plain : RecordOptions
  plain = record { regions = regions; ignored = [] }

  record_without : (head : RunHead) (tool : List ℕ) (d : Data) (r : Record) → record_in now head tool d ≡ Ok r
      → record_in plain head tool (result_without names d) ≡ Ok r
  unfolding record_in
  record_without head tool d r is =
      let parts = bind_ok (parts_of regions d) (record_by names head tool) r is in
      let found = fingerprints_read regions d parts.0 parts.1 in
      ap (λ p. p >>= record_by [] head tool)
      (parts_fewer names regions d (result_without names d) found.full found.partial (alike_beside names d) found.are
      (fingerprints_without names d found.full found.partial found.are)
      ∙ ap (result_map (parts_without names)) parts.1)
      ∙ record_fewer names head tool parts.0 ∙ parts.2

-- ---- the results of a run

results_fewer : (names : List (List ℕ)) (run : Data) → results_of (run_without names run) ≡ map (result_without names) (results_of run)
results_fewer names run = ap elements_or_none (array_only (map (result_without names) (results_of run)) run) ∙ by_array (results_array run)
  where
    by_array : (found : Option Items)
        → elements_or_none (option_map (λ _. json_items (map (result_without names) (elements_or_none found))) found)
        ≡ map (result_without names) (elements_or_none found)
    by_array None = refl
    by_array (Some ds) = items_back (map (result_without names) (elements ds))

pub as_many_results : (names : List (List ℕ)) (run : Data) → length (results_of (run_without names run)) ≡ length (results_of run)
as_many_results names run = ap length (results_fewer names run) ∙ length-map (results_of run) (result_without names)

-- ---- items

abbrev IsNotBad : Item → Type 0
IsNotBad (Sound r) = Unit {0}
IsNotBad (Bad fault) = ⊥
IsNotBad Skipped = Unit {0}

abbrev item_for : Placed → Data → Item
item_for p d = if skips p.source && is_absent_result d then Skipped else record_item p.options.records p.run d

items_are : (p : Placed) → items_of p ≡ map (item_for p) (results_of p.run)
unfolding record_of
items_are p = by_position (item_for p) null (results_of p.run)

not_bad : (at : ℕ → At) (n : ℕ) (items : List Item) → first_bad at n items ≡ [] → AllByRecursion IsNotBad items
not_bad at n [] is = tt
not_bad at n (Sound r ∷ items) is = (tt, not_bad at (n + 1) items is)
not_bad at n (Bad fault ∷ items) is = let never : ⊥ = cc in absurd never
not_bad at n (Skipped ∷ items) is = (tt, not_bad at (n + 1) items is)

none_opened : (source : Source) (number : ℕ) (opening : Option Fault) (items : List Item) → opened_or source number opening items ≡ []
    → AllByRecursion IsNotBad items
none_opened source number (Some fault) items is = let never : ⊥ = cc in absurd never
none_opened source number None items is = not_bad (Single source number) 0 items is

module _ (names : List (List ℕ)) (regions : Bool) (tool : List ℕ) (d : Data) where
  record_same : (head : RunHead) (r : Result Record Fault) → record_in (now names regions) head tool d ≡ r → IsNotBad (item_by r)
      → item_by (record_in (plain names regions) head tool (result_without names d)) ≡ item_by r
  record_same head (Ok r) is sound = ap item_by (record_without names regions head tool d r is)
  record_same head (Err fault) is sound = absurd sound

  head_same : (head : Result RunHead Fault) → IsNotBad (item_by (head >>= λ h. record_in (now names regions) h tool d))
      → item_by (head >>= λ h. record_in (plain names regions) h tool (result_without names d))
      ≡ item_by (head >>= λ h. record_in (now names regions) h tool d)
  head_same (Ok head) sound = record_same head (record_in (now names regions) head tool d) refl sound
  head_same (Err fault) sound = absurd sound

module _ (p : Placed) where
  abbrev ignored : List (List ℕ)
  ignored = p.options.records.ignored

  abbrev looks : Bool
  looks = p.options.records.regions

  abbrev fewer_results : List Data
  fewer_results = map (result_without ignored) (results_of p.run)

  item_without : (d : Data) → IsNotBad (item_for p d) → item_for (without_ignored p) (result_without ignored d) ≡ item_for p d
  item_without d sound =
      let options = plain ignored looks in
      let run = run_without ignored p.run in
      ap (λ b. if skips p.source && b then Skipped else item_by (head_of run >>= λ h. record_in options h (tool_name run) (result_without ignored d)))
      (absent_same (result_without ignored d) d (alike_beside ignored d))
      ∙ ap (λ h. if skips p.source && is_absent_result d then Skipped else item_by (h >>= λ h. record_in options h (tool_name run) (result_without ignored d)))
      (head_only fewer_results p.run)
      ∙ ap (λ t. if skips p.source && is_absent_result d then Skipped else item_by (head_of p.run >>= λ h. record_in options h t (result_without ignored d)))
      (tool_only fewer_results p.run)
      ∙ by_test (skips p.source && is_absent_result d) sound
    where
      by_test : (b : Bool) → IsNotBad (if b then Skipped else record_item p.options.records p.run d)
          → (if b then Skipped else item_by (head_of p.run >>= λ h. record_in (plain ignored looks) h (tool_name p.run) (result_without ignored d)))
          ≡ (if b then Skipped else record_item p.options.records p.run d)
      by_test true sound = refl
      by_test false sound = head_same ignored looks (tool_name p.run) d (head_of p.run) sound

  each_without : (ds : List Data) → AllByRecursion IsNotBad (map (item_for p) ds)
      → map (item_for (without_ignored p)) (map (result_without ignored) ds) ≡ map (item_for p) ds
  each_without [] sound = refl
  each_without (d ∷ ds) sound = ap₂ (λ x xs. x ∷ xs) (item_without d sound.0) (each_without ds sound.1)

  results_are : results_of (run_without ignored p.run) ≡ fewer_results
  results_are = results_fewer ignored p.run

  items_without : AllByRecursion IsNotBad (items_of p) → items_of (without_ignored p) ≡ items_of p
  items_without sound =
      items_are (without_ignored p) ∙ ap (map (item_for (without_ignored p))) results_are
      ∙ each_without (results_of p.run) (subst (AllByRecursion IsNotBad) (items_are p) sound)
      ∙ sym (items_are p)

-- ---- opening

some_mapped : {A B : Type 0} (f : A → B) (o : Option A) → is_some (option_map f o) ≡ is_some o
some_mapped f None = refl
some_mapped f (Some a) = refl

failed_only : (ds : List Data) (run : Data) → failed (with_only ds run) ≡ failed run
failed_only ds run =
    let unsuccessful : list_any is_unsuccessful (invocations_in (with_only ds run)) ≡ list_any is_unsuccessful (invocations_in run) =
    sym (bare_unsuccessful (with_only ds run)) ∙ ap (λ d. list_any is_unsuccessful (invocations_in d)) (bare_only ds run) ∙ bare_unsuccessful run in
    ap (λ b. b || not (is_some (results_array (with_only ds run)))) unsuccessful
    ∙ ap (λ b. list_any is_unsuccessful (invocations_in run) || not b)
    (ap is_some (array_only ds run) ∙ some_mapped (λ _. json_items ds) (results_array run))

opened_only : (must : Bool) (ds : List Data) (run : Data) → opened_of must (with_only ds run) ≡ opened_of must run
opened_only false ds run = head_only ds run
opened_only true ds run = rw (head_only ds run, failed_only ds run) refl

-- ---- the law of ignoring

run_same : (p : Placed) → run_faults p ≡ [] → (run_faults (without_ignored p) ≡ []) × (items_of (without_ignored p) ≡ items_of p)
run_same p sound =
    let items = items_without p (none_opened p.source p.number (opening_fault p) (items_of p) sound) in (
      ap (opened_or p.source p.number (opening_fault (without_ignored p))) items
          ∙ ap (λ o. opened_or p.source p.number (fault_of o) (items_of p)) (opened_only p.options.must_succeed (fewer_results p) p.run)
          ∙ sound,
      items,
    )

pub read_without : (ps : List Placed) → faults_of_runs ps ≡ [] → AreReadWithout ps
read_without [] sound = record { faultless = refl; records = refl }
read_without (p ∷ ps) sound =
    let parts = both_empty (run_faults p) (faults_of_runs ps) sound in
    let here = run_same p parts.0 in
    let rest = read_without ps parts.1 in record {
      faultless = ap₂ (λ xs ys. xs ++ ys) here.0 rest.faultless;
      records = ap₂ (λ xs ys. records_in xs ++ ys) here.1 rest.records;
    }

-- ---- names don't change errors

abbrev fault_in : Item → Option Fault
fault_in (Sound r) = None
fault_in (Bad fault) = Some fault
fault_in Skipped = None

fault_found : (r : Result Record Fault) → fault_in (item_by r) ≡ fault_of r
fault_found (Ok r) = refl
fault_found (Err fault) = refl

bind_fault : {A B : Type 0} (r : Result A Fault) (f g : A → Result B Fault) → ((a : A) → fault_of (f a) ≡ fault_of (g a))
    → fault_of (r >>= f) ≡ fault_of (r >>= g)
bind_fault (Ok a) f g same = same a
bind_fault (Err fault) f g same = refl

fault_by : (names others : List (List ℕ)) (head : RunHead) (tool : List ℕ) (parts : Parts)
    → fault_of (record_by names head tool parts) ≡ fault_of (record_by others head tool parts)
unfolding record_by
fault_by names others head tool parts =
    bind_fault (descriptor_of head.components (reference_of parts)) _ _
    (λ descriptor. bind_fault (level_of head parts) _ _ (λ level. bind_fault (place_of head.artifacts parts) _ _ (λ place. refl)))

record_fault : (names : List (List ℕ)) (options : RecordOptions) (head : RunHead) (tool : List ℕ) (d : Data)
    → fault_of (record_in (record { regions = options.regions; ignored = names }) head tool d) ≡ fault_of (record_in options head tool d)
unfolding record_in
record_fault names options head tool d =
    bind_fault (parts_of options.regions d) (record_by names head tool) (record_by options.ignored head tool) (fault_by names options.ignored head tool)

item_fault : (names : List (List ℕ)) (p : Placed) (d : Data) → fault_in (item_for (ignoring names p) d) ≡ fault_in (item_for p d)
item_fault names p d = by_test (skips p.source && is_absent_result d)
  where
    by_test : (b : Bool) → fault_in (if b then Skipped else record_item (ignoring names p).options.records p.run d)
        ≡ fault_in (if b then Skipped else record_item p.options.records p.run d)
    by_test true = refl
    by_test false =
        fault_found (head_of p.run >>= λ h. record_in (ignoring names p).options.records h (tool_name p.run) d)
        ∙ bind_fault (head_of p.run) (λ h. record_in (ignoring names p).options.records h (tool_name p.run) d)
        (λ h. record_in p.options.records h (tool_name p.run) d)
        (λ h. record_fault names p.options.records h (tool_name p.run) d)
        ∙ sym (fault_found (head_of p.run >>= λ h. record_in p.options.records h (tool_name p.run) d))

one_more : (at : ℕ → At) (n : ℕ) (x y : Item) (xs ys : List Item) → fault_in x ≡ fault_in y → first_bad at (n + 1) xs ≡ first_bad at (n + 1) ys
    → first_bad at n (x ∷ xs) ≡ first_bad at n (y ∷ ys)
one_more at n (Sound r) (Sound s) xs ys same rest = rest
one_more at n (Sound r) (Bad fault) xs ys same rest = let never : ⊥ = cc in absurd never
one_more at n (Sound r) Skipped xs ys same rest = rest
one_more at n (Bad fault) (Sound s) xs ys same rest = let never : ⊥ = cc in absurd never
one_more at n (Bad fault) (Bad other) xs ys same rest = let e : fault ≡ other = cc in ap (λ f. first_bad at n (Bad f ∷ [])) e
one_more at n (Bad fault) Skipped xs ys same rest = let never : ⊥ = cc in absurd never
one_more at n Skipped (Sound s) xs ys same rest = rest
one_more at n Skipped (Bad fault) xs ys same rest = let never : ⊥ = cc in absurd never
one_more at n Skipped Skipped xs ys same rest = rest

same_bad : (names : List (List ℕ)) (p : Placed) (at : ℕ → At) (n : ℕ) (ds : List Data)
    → first_bad at n (map (item_for (ignoring names p)) ds) ≡ first_bad at n (map (item_for p) ds)
same_bad names p at n [] = refl
same_bad names p at n (d ∷ ds) =
    one_more at n (item_for (ignoring names p) d) (item_for p d) (map (item_for (ignoring names p)) ds) (map (item_for p) ds) (item_fault names p d)
    (same_bad names p at (n + 1) ds)

opened_same : (source : Source) (number : ℕ) (opening : Option Fault) (xs ys : List Item)
    → first_bad (Single source number) 0 xs ≡ first_bad (Single source number) 0 ys
    → opened_or source number opening xs ≡ opened_or source number opening ys
opened_same source number (Some fault) xs ys same = refl
opened_same source number None xs ys same = same

pub errors_same : (names : List (List ℕ)) (ps : List Placed) → faults_of_runs (map (ignoring names) ps) ≡ faults_of_runs ps
errors_same names [] = refl
errors_same names (p ∷ ps) =
    ap₂ (λ xs ys. xs ++ ys)
    (opened_same p.source p.number (opening_fault p) (items_of (ignoring names p)) (items_of p)
    (ap (first_bad (Single p.source p.number) 0) (items_are (ignoring names p))
    ∙ same_bad names p (Single p.source p.number) 0 (results_of p.run)
    ∙ sym (ap (first_bad (Single p.source p.number) 0) (items_are p))))
    (errors_same names ps)
