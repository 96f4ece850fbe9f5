-- What is known about the runs of sources, and about a result after the checks before it.
use Rattle.std.proofs.Common.{◌≡◌, ℕ, ◌+◌, ◌++◌, ◌||◌, Bool, List, [], ◌∷◌, true, false, Result, Ok, Err, take, drop, length, refl, ap, ◌∙◌}
use Rattle.std.proofs.lemmas.List.{map-append}
use Rattle.std.proofs.lemmas.List.Concat.{flat_map-append}
use Rattle.std.proofs.lemmas.List.Folds.{list_any-append}
use Rattle.std.proofs.Math.Seq.{take-append_seam, drop-append_seam}
use Rattle.std.specs.List.{AllByRecursion, list_any}
use Rattle.serde_json.specs.Data.{Data}
use Rattle.serde_json.specs.Written.{has_float}
use Rattle.sarif_options.specs.declared.checks.Checks.{Checks}
use Rattle.sarif_read.specs.declared.read_fault.ReadFault.{ReadFault}
use Rattle.sarif_read.specs.Reading.{log_of}
use Rattle.sarif_model.specs.declared.merge_fault.MergeFault.{MergeFault}
use Rattle.sarif_model.specs.declared.merge_fault.Source.{Source}
use Rattle.sarif_model.specs.declared.merge_fault.Source.TheVariants.{Log, Baseline}
use Rattle.sarif_inputs.specs.Inputs.{Sourced, numbered, placed, placed_from, readable, record_options, runs_in}
use Rattle.sarif_runs.specs.Judging.{skips, run_values}
use Rattle.sarif_runs.specs.Placed.{AreReadWith, Placed}
use Rattle.sarif_inputs.proofs.SourceRuns.{data_placed}

pub placed-append : (xs ys : List Sourced) → placed (xs ++ ys) ≡ placed xs ++ placed ys
placed-append xs ys = flat_map-append (λ s. placed_from s.checks s.source 0 (runs_in s)) xs ys

-- ---- logs and baselines

all-append : (P : Placed → Type 0) (xs ys : List Placed) → AllByRecursion P xs → AllByRecursion P ys → AllByRecursion P (xs ++ ys)
all-append P [] ys h k = k
all-append P (x ∷ xs) ys h k = (h.0, all-append P xs ys h.1 k)

log_from : (checks : Checks) (k n : ℕ) (runs : List Data) → AllByRecursion (λ p. skips p.source ≡ false) (placed_from checks (Log k) n runs)
log_from checks k n [] = tt
log_from checks k n (run ∷ runs) = (refl, log_from checks k (n + 1) runs)

pub log_sides : (checks : Checks) (k : ℕ) (ls : List (List ℕ)) → AllByRecursion (λ p. skips p.source ≡ false) (placed (numbered checks Log k ls))
log_sides checks k [] = tt
log_sides checks k (bytes ∷ ls) =
    all-append (λ p. skips p.source ≡ false) (placed_from checks (Log k) 0 (readable (log_of checks.allow_external bytes)))
    (placed (numbered checks Log (k + 1) ls)) (log_from checks k 0 (readable (log_of checks.allow_external bytes)))
    (log_sides checks (k + 1) ls)

baseline_from : (checks : Checks) (k n : ℕ) (runs : List Data) → AllByRecursion (λ p. skips p.source ≡ true) (placed_from checks (Baseline k) n runs)
baseline_from checks k n [] = tt
baseline_from checks k n (run ∷ runs) = (refl, baseline_from checks k (n + 1) runs)

pub baseline_sides : (checks : Checks) (k : ℕ) (bs : List (List ℕ)) → AllByRecursion (λ p. skips p.source ≡ true) (placed (numbered checks Baseline k bs))
baseline_sides checks k [] = tt
baseline_sides checks k (bytes ∷ bs) =
    all-append (λ p. skips p.source ≡ true) (placed_from checks (Baseline k) 0 (readable (log_of checks.allow_external bytes)))
    (placed (numbered checks Baseline (k + 1) bs)) (baseline_from checks k 0 (readable (log_of checks.allow_external bytes)))
    (baseline_sides checks (k + 1) bs)

-- ---- regions

records_from : (checks : Checks) (source : Source) (n : ℕ) (runs : List Data) → AreReadWith (record_options checks) (placed_from checks source n runs)
records_from checks source n [] = tt
records_from checks source n (run ∷ runs) = (refl, records_from checks source (n + 1) runs)

-- all sources are read with regions, or all without
pub read_alike : (checks : Checks) (name : ℕ → Source) (k : ℕ) (sources : List (List ℕ))
    → AreReadWith (record_options checks) (placed (numbered checks name k sources))
read_alike checks name k [] = tt
read_alike checks name k (bytes ∷ sources) =
    let here = readable (log_of checks.allow_external bytes) in
    all-append (λ p. p.options.records ≡ record_options checks) (placed_from checks (name k) 0 here)
    (placed (numbered checks name (k + 1) sources)) (records_from checks (name k) 0 here) (read_alike checks name (k + 1) sources)

-- ---- numbers with a fraction

module _ (law : (allow : Bool) (bytes : List ℕ) (runs : List Data) → log_of allow bytes ≡ Ok runs → list_any has_float runs ≡ false) where
  readable_whole : (allow : Bool) (bytes : List ℕ) (r : Result (List Data) ReadFault) → log_of allow bytes ≡ r → list_any has_float (readable r) ≡ false
  readable_whole allow bytes (Ok runs) h = law allow bytes runs h
  readable_whole allow bytes (Err fault) h = refl

  pub whole : (sources : List Sourced) → list_any has_float (run_values (placed sources)) ≡ false
  whole [] = refl
  whole (s ∷ rest) =
      let here = placed_from s.checks s.source 0 (runs_in s) in
      ap (list_any has_float) (map-append (λ p. p.run) here (placed rest))
      ∙ (list_any-append has_float (run_values here) (run_values (placed rest))
      ∙ (ap (λ b. b || list_any has_float (run_values (placed rest)))
      (ap (list_any has_float) (data_placed s.checks s.source 0 (runs_in s))
      ∙ readable_whole s.checks.allow_external s.bytes (log_of s.checks.allow_external s.bytes) refl)
      ∙ whole rest))

-- ---- the two parts of all runs

pub front : (all : List Placed) (n : ℕ) (xs ys : List Sourced) → all ≡ placed (xs ++ ys) → n ≡ length (placed xs) → take n all ≡ placed xs
front all n xs ys h k =
    ap (λ m. take m all) k ∙ (ap (take (length (placed xs))) (h ∙ placed-append xs ys) ∙ take-append_seam (placed xs) (placed ys))

pub back : (all : List Placed) (n : ℕ) (xs ys : List Sourced) → all ≡ placed (xs ++ ys) → n ≡ length (placed xs) → drop n all ≡ placed ys
back all n xs ys h k =
    ap (λ m. drop m all) k ∙ (ap (drop (length (placed xs))) (h ∙ placed-append xs ys) ∙ drop-append_seam (placed xs) (placed ys))

-- ---- results

pub nothing_before : (a b c d e : List MergeFault) → a ++ b ≡ [] → c ≡ [] → d ≡ [] → a ++ (b ++ (c ++ (d ++ e))) ≡ e
nothing_before [] b c d e h i j = ap (λ x. x ++ (c ++ (d ++ e))) h ∙ (ap (λ x. x ++ (d ++ e)) i ∙ ap (λ x. x ++ e) j)
nothing_before (x ∷ a) b c d e h i j = cc
