-- The runs that sources give, and how many results they have.
use Rattle.std.proofs.Common.{◌≡◌, false, ℕ, ◌+◌, List, [], ◌∷◌, ◌++◌, map, length, refl, sym, ap, ◌∙◌, arith, add-zero, length-append}
use Rattle.std.proofs.lemmas.List.{map-append, length-map}
use Rattle.std.specs.List.{list_any}
use Rattle.std.proofs.lemmas.Bool.{or_parts}
use Rattle.serde_json.specs.Written.{has_float}
use Rattle.sarif_options.specs.declared.checks.Checks.{Checks}
use Rattle.serde_json.specs.Data.{Data}
use Rattle.sarif_read.specs.Internal.Indexed.{run_of}
use Rattle.sarif_read.specs.declared.indexed_run.IndexedRun.{IndexedRun}
use Rattle.sarif_model.specs.Run.{results_total}
use Rattle.sarif_model.specs.declared.merge_fault.Source.{Source}
use Rattle.sarif_inputs.specs.declared.read_run.ReadRun.{ReadRun}
use Rattle.sarif_runs.specs.Placed.{Placed}
use Rattle.sarif_runs.specs.Judging.{run_values}
use Rattle.sarif_inputs.specs.Inputs.{placed_from, run_options}
use Rattle.sarif_inputs.specs.Internal.ReadRun.{placed_read}

placed_push : (checks : Checks) (source : Source) (n : ℕ) (ds : List Data) (d : Data)
    → placed_from checks source n (ds ++ d ∷ [])
    ≡ placed_from checks source n ds ++ record { source = source; number = n + length ds; options = run_options checks source; run = d } ∷ []
placed_push checks source n [] d =
    let one : Placed → List Placed = λ p. p ∷ [] in
    ap (λ m. one (record { source = source; number = m; options = run_options checks source; run = d })) (sym (add-zero n))
placed_push checks source n (e ∷ ds) d =
    let rest = placed_push checks source (n + 1) ds d in
    let same : n + 1 + length ds ≡ n + length (e ∷ ds) = omega arith in
    ap (λ ps. record { source = source; number = n; options = run_options checks source; run = e } ∷ ps)
    (rest ∙ ap (λ m. placed_from checks source (n + 1) ds ++ record { source = source; number = m; options = run_options checks source; run = d } ∷ []) same)

-- one run more of a source
pub placed_more : (checks : Checks) (source : Source) (vs : List IndexedRun) (v : IndexedRun)
    → placed_from checks source 0 (map run_of (vs ++ v ∷ [])) ≡ placed_from checks source 0 (map run_of vs)
    ++ record { source = source; number = length vs; options = run_options checks source; run = run_of v } ∷ []
placed_more checks source vs v =
    let same : 0 + length (map run_of vs) ≡ length vs = omega (arith, length-map vs run_of) in
    ap (placed_from checks source 0) (map-append run_of vs (v ∷ []))
    ∙ placed_push checks source 0 (map run_of vs) (run_of v)
    ∙ ap
    (λ m. placed_from checks source 0 (map run_of vs)
    ++ record { source = source; number = m; options = run_options checks source; run = run_of v } ∷ []) same

pub data_placed : (checks : Checks) (source : Source) (n : ℕ) (ds : List Data) → run_values (placed_from checks source n ds) ≡ ds
data_placed checks source n [] = refl
data_placed checks source n (d ∷ ds) = ap (λ es. d ∷ es) (data_placed checks source (n + 1) ds)

pub length_placed : (checks : Checks) (source : Source) (n : ℕ) (ds : List Data) → length (placed_from checks source n ds) ≡ length ds
length_placed checks source n [] = refl
length_placed checks source n (d ∷ ds) = let rest = length_placed checks source (n + 1) ds in omega arith

pub total_append : (ds es : List Data) → results_total (ds ++ es) ≡ results_total ds + results_total es
total_append [] es = omega arith
total_append (d ∷ ds) es = let rest = total_append ds es in omega arith

-- the results of all runs, with those of one more source
pub total_more : (checks : Checks) (ps : List Placed) (source : Source) (ds : List Data)
    → results_total (run_values (ps ++ placed_from checks source 0 ds)) ≡ results_total (run_values ps) + results_total ds
total_more checks ps source ds =
    ap results_total (map-append (λ (p : Placed). p.run) ps (placed_from checks source 0 ds))
    ∙ total_append (run_values ps) (run_values (placed_from checks source 0 ds))
    ∙ ap (λ es. results_total (run_values ps) + results_total es) (data_placed checks source 0 ds)

-- the number of runs and of their results, as the code holds them, with those of one more source
pub counted_more : (checks : Checks) (old new : List ReadRun) (source : Source) (ds : List Data)
    → map placed_read new ≡ map placed_read old ++ placed_from checks source 0 ds
    → (length new ≡ length old + length ds)
    × (results_total (run_values (map placed_read new)) ≡ results_total (run_values (map placed_read old)) + results_total ds)
counted_more checks old new source ds same =
    let long : length (map placed_read new) ≡ length (map placed_read old) + length ds =
    ap length same ∙ length-append (map placed_read old) (placed_from checks source 0 ds)
    ∙ ap (λ n. length (map placed_read old) + n) (length_placed checks source 0 ds) in (
      omega (arith, long, length-map new placed_read, length-map old placed_read),
      ap (λ ps. results_total (run_values ps)) same ∙ total_more checks (map placed_read old) source ds,
    )

-- if no run of some runs holds a number with a fraction, one of them holds none
pub whole_at : (vs : List IndexedRun) (v : IndexedRun) (ws : List IndexedRun) → list_any has_float (map run_of (vs ++ v ∷ ws)) ≡ false
    → has_float (run_of v) ≡ false
whole_at [] v ws h = (or_parts (has_float (run_of v)) (list_any has_float (map run_of ws)) h).0
whole_at (w ∷ vs) v ws h = whole_at vs v ws (or_parts (has_float (run_of w)) (list_any has_float (map run_of (vs ++ v ∷ ws))) h).1
