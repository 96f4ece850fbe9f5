-- Sources with other numbers have the same runs and records, and no errors if they had none.
use Rattle.std.proofs.Common.{◌≡◌, ◌+◌, ◌&&◌, ℕ, Bool, List, [], ◌∷◌, ◌++◌, map, length, Option, Some, None, refl, sym, ap₂, ◌∙◌, if◌then◌else◌}
use Rattle.std.specs.List.{AllByRecursion, AllZip, range_with_len}
use Rattle.std.proofs.lemmas.List.Concat.{flat_map-append}
use Rattle.serde_json.specs.Data.{Data}
use Rattle.sarif_model.specs.declared.fault.Fault.{Fault}
use Rattle.sarif_model.specs.declared.merge_fault.At.{At}
use Rattle.sarif_model.specs.declared.merge_fault.At.TheVariants.{Single}
use Rattle.sarif_model.specs.declared.merge_fault.Source.{Source}
use Rattle.sarif_model.specs.Run.{is_absent_result, result_at, results_of}
use Rattle.sarif_options.specs.declared.checks.Checks.{Checks}
use Rattle.sarif_runs.specs.declared.item.Item.{Item}
use Rattle.sarif_runs.specs.declared.item.Item.TheVariants.{Sound, Bad, Skipped}
use Rattle.sarif_runs.specs.declared.run_options.RunOptions.{RunOptions}
use Rattle.sarif_runs.specs.Judging.{fault_of, faults_of_runs, first_bad, item_by, items_of, opened_of, opened_or, opening_fault, records_in, records_of, run_faults, run_values, skips}
use Rattle.sarif_runs.specs.Placed.{Placed}
use Rattle.sarif_runs.specs.Record.{record_of}
use Rattle.sarif_inputs.specs.Inputs.{Sourced, must_succeed, numbered, placed, placed_from, record_options, runs_in}

pub both_empty : {X : Type 0} (xs ys : List X) → xs ++ ys ≡ [] → (xs ≡ []) × (ys ≡ [])
both_empty [] ys is = (refl, is)
both_empty (x ∷ xs) ys is = let never : ⊥ = cc in absurd never

pub none_both : {X : Type 0} (xs ys : List X) → xs ≡ [] → ys ≡ [] → xs ++ ys ≡ []
none_both xs ys first second = ap₂ (λ l r. l ++ r) first second

pub zip_append : {X : Type 0} (R : X → X → Type 0) (xs ys more rest : List X) → AllZip R xs ys → AllZip R more rest → AllZip R (xs ++ more) (ys ++ rest)
zip_append R [] [] more rest first second = second
zip_append R [] (y ∷ ys) more rest first second = absurd first
zip_append R (x ∷ xs) [] more rest first second = absurd first
zip_append R (x ∷ xs) (y ∷ ys) more rest first second = (first.0, zip_append R xs ys more rest first.1 second)

-- ---- runs that are read the same

pub record IsAlike (p q : Placed) : Type 0 where
  pub skip : skips p.source ≡ skips q.source
  pub options : p.options ≡ q.options
  pub run : p.run ≡ q.run

abbrev items_by : Bool → RunOptions → Data → List Item
items_by skip options run =
    map (λ seq. if skip && is_absent_result (result_at run seq) then Skipped else item_by (record_of options.records run seq))
    (range_with_len 0 (length (results_of run)))

items_alike : (p q : Placed) → IsAlike p q → items_of p ≡ items_of q
items_alike p q same = (λ i. items_by (same.skip i) (same.options i) (same.run i))

opening_alike : (p q : Placed) → IsAlike p q → opening_fault p ≡ opening_fault q
opening_alike p q same = (λ i. fault_of (opened_of (same.options i).must_succeed (same.run i)))

abbrev IsNotBad : Item → Type 0
IsNotBad (Sound r) = Unit {0}
IsNotBad (Bad fault) = ⊥
IsNotBad Skipped = Unit {0}

not_bad : (at : ℕ → At) (n : ℕ) (items : List Item) → first_bad at n items ≡ [] → AllByRecursion IsNotBad items
not_bad at n [] is = tt
not_bad at n (Sound r ∷ items) is = (tt, not_bad at (n + 1) items is)
not_bad at n (Bad fault ∷ items) is = let never : ⊥ = cc in absurd never
not_bad at n (Skipped ∷ items) is = (tt, not_bad at (n + 1) items is)

none_bad : (at : ℕ → At) (n : ℕ) (items : List Item) → AllByRecursion IsNotBad items → first_bad at n items ≡ []
none_bad at n [] sound = refl
none_bad at n (Sound r ∷ items) sound = none_bad at (n + 1) items sound.1
none_bad at n (Bad fault ∷ items) sound = absurd sound.0
none_bad at n (Skipped ∷ items) sound = none_bad at (n + 1) items sound.1

opened_at : (s t : Source) (m n : ℕ) (opening : Option Fault) (items : List Item) → opened_or s m opening items ≡ [] → opened_or t n opening items ≡ []
opened_at s t m n (Some fault) items is = let never : ⊥ = cc in absurd never
opened_at s t m n None items is = none_bad (Single t n) 0 items (not_bad (Single s m) 0 items is)

run_faultless : (p q : Placed) → IsAlike p q → run_faults p ≡ [] → run_faults q ≡ []
run_faultless p q same none =
    ap₂ (opened_or q.source q.number) (sym (opening_alike p q same)) (sym (items_alike p q same))
    ∙ opened_at p.source q.source p.number q.number (opening_fault p) (items_of p) none

pub runs_faultless : (ps qs : List Placed) → AllZip IsAlike ps qs → faults_of_runs ps ≡ [] → faults_of_runs qs ≡ []
runs_faultless [] [] same none = refl
runs_faultless [] (q ∷ qs) same none = absurd same
runs_faultless (p ∷ ps) [] same none = absurd same
runs_faultless (p ∷ ps) (q ∷ qs) same none =
    let parts = both_empty (run_faults p) (faults_of_runs ps) none in
    none_both (run_faults q) (faults_of_runs qs) (run_faultless p q same.0 parts.0) (runs_faultless ps qs same.1 parts.1)

pub records_alike : (ps qs : List Placed) → AllZip IsAlike ps qs → records_of ps ≡ records_of qs
records_alike [] [] same = refl
records_alike [] (q ∷ qs) same = absurd same
records_alike (p ∷ ps) [] same = absurd same
records_alike (p ∷ ps) (q ∷ qs) same = ap₂ (λ xs rs. records_in xs ++ rs) (items_alike p q same.0) (records_alike ps qs same.1)

pub values_alike : (ps qs : List Placed) → AllZip IsAlike ps qs → run_values ps ≡ run_values qs
values_alike [] [] same = refl
values_alike [] (q ∷ qs) same = absurd same
values_alike (p ∷ ps) [] same = absurd same
values_alike (p ∷ ps) (q ∷ qs) same = ap₂ (λ d ds. d ∷ ds) same.0.run (values_alike ps qs same.1)

-- ---- sources with other numbers

module _ (checks : Checks) (name : ℕ → Source) (skip : (m n : ℕ) → skips (name m) ≡ skips (name n))
    (must : (m n : ℕ) → must_succeed checks (name m) ≡ must_succeed checks (name n)) where
  from_alike : (m n k : ℕ) (runs : List Data) → AllZip IsAlike (placed_from checks (name m) k runs) (placed_from checks (name n) k runs)
  from_alike m n k [] = tt
  from_alike m n k (run ∷ runs) =
      let options : ◌≡◌ {A = RunOptions} (record { must_succeed = must_succeed checks (name m); records = record_options checks })
      (record { must_succeed = must_succeed checks (name n); records = record_options checks }) =
      (λ i. record { must_succeed = must m n i; records = record_options checks }) in
      (record { skip = skip m n; options = options; run = refl }, from_alike m n (k + 1) runs)

  pub placed_alike : (m n : ℕ) (sources : List (List ℕ)) → AllZip IsAlike (placed (numbered checks name m sources)) (placed (numbered checks name n sources))
  placed_alike m n [] = tt
  placed_alike m n (bytes ∷ sources) =
      let runs = runs_in (record { source = name m; bytes = bytes; checks = checks }) in
      zip_append IsAlike (placed_from checks (name m) 0 runs) (placed_from checks (name n) 0 runs) (placed (numbered checks name (m + 1) sources))
      (placed (numbered checks name (n + 1) sources)) (from_alike m n 0 runs) (placed_alike (m + 1) (n + 1) sources)

pub placed-append : (xs ys : List Sourced) → placed (xs ++ ys) ≡ placed xs ++ placed ys
placed-append xs ys = flat_map-append (λ s. placed_from s.checks s.source 0 (runs_in s)) xs ys

pub faults-append : (ps qs : List Placed) → faults_of_runs (ps ++ qs) ≡ faults_of_runs ps ++ faults_of_runs qs
faults-append ps qs = flat_map-append run_faults ps qs

pub records-append : (ps qs : List Placed) → records_of (ps ++ qs) ≡ records_of ps ++ records_of qs
records-append ps qs = flat_map-append (λ p. records_in (items_of p)) ps qs
