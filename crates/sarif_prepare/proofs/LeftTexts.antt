-- The JSON and the counts of the unmatched results, if only these have a draft.
use Rattle.std.proofs.Common.{◌≡◌, ℕ, zero, suc, ◌+◌, Bool, true, false, List, [], ◌∷◌, ◌++◌, map, length, take, drop, Option, Some, is_some, option_map, unwrap_or, refl, sym, ap, ◌∙◌, arith}
use Rattle.std.proofs.Math.Seq.{take-append_seam, drop-append_seam}
use Rattle.std.proofs.lemmas.List.{map-append, length-map, length-append, length-drop, length-take-le, take-map, drop-map}
use Rattle.std.specs.List.{AllByRecursion, list_any}
use Rattle.serde_json.specs.Data.{Data}
use Rattle.serde_json.specs.View.{members_view}
use Rattle.serde_json.specs.Written.{compact_text}
use Rattle.sarif_model.specs.declared.kinds.Level.{Level}
use Rattle.sarif_model.specs.declared.kinds.State.{State}
use Rattle.sarif_model.specs.declared.kinds.State.TheVariants.{Absent}
use Rattle.sarif_model.specs.declared.record.Record.{Record}
use Rattle.sarif_model.specs.Run.{results_of}
use Rattle.sarif_prepare.specs.Internal.Leftover.{not_taken}
use Rattle.sarif_results.specs.declared.draft.Draft.{Draft}
use Rattle.sarif_log.specs.declared.run_parts.RunParts.{RunParts}
use Rattle.sarif_log.specs.Internal.Texts.{count_in_parts, counts_as, counts_in_parts, left_texts, parts_text, present_count, present_results, run_text, tallied, text_if, text_with, texts_of, unless_taken, ArePartsOf}
use Rattle.sarif_results.specs.Drafts.{drafts_by, unapplied, IsRun}
use Rattle.sarif_log.specs.MergedRuns.{absent_runs}
use Rattle.sarif_model.specs.Run.{present}
use Rattle.sarif_log.proofs.RunTexts.{runs_left}
use Rattle.sarif_prepare.specs.Internal.LeftParts.{left_count, AreLeftParts}

abbrev absent : Draft → Option State
absent draft = Some Absent

-- ---- lists without their marked elements

pub seam : {X : Type 0} (n : ℕ) (taken : List Bool) (xs : List X) → length xs ≡ length taken
    → not_taken taken xs ≡ not_taken (take n taken) (take n xs) ++ not_taken (drop n taken) (drop n xs)
seam zero taken xs same = refl
seam (suc n) [] [] same = refl
seam (suc n) [] (x ∷ xs) same = absurd (omega (arith, same))
seam (suc n) (t ∷ taken) [] same = absurd (omega (arith, same))
seam (suc n) (true ∷ taken) (x ∷ xs) same = seam n taken xs (omega (arith, same))
seam (suc n) (false ∷ taken) (x ∷ xs) same = ap (λ ys. x ∷ ys) (seam n taken xs (omega (arith, same)))

pub long : {X Y : Type 0} (taken : List Bool) (xs : List X) (ys : List Y) → length xs ≡ length taken → length ys ≡ length taken
    → length (not_taken taken xs) ≡ length (not_taken taken ys)
long [] [] [] same_x same_y = refl
long [] [] (y ∷ ys) same_x same_y = absurd (omega (arith, same_y))
long [] (x ∷ xs) ys same_x same_y = absurd (omega (arith, same_x))
long (t ∷ taken) [] ys same_x same_y = absurd (omega (arith, same_x))
long (t ∷ taken) (x ∷ xs) [] same_x same_y = absurd (omega (arith, same_y))
long (true ∷ taken) (x ∷ xs) (y ∷ ys) same_x same_y = long taken xs ys (omega (arith, same_x)) (omega (arith, same_y))
long (false ∷ taken) (x ∷ xs) (y ∷ ys) same_x same_y = ap suc (long taken xs ys (omega (arith, same_x)) (omega (arith, same_y)))

-- ---- one run

texts : (taken : List Bool) (ds : List Draft) → length ds ≡ length taken
    → texts_of (not_taken taken ds) (map absent (not_taken taken ds)) ≡ texts_of ds (map unless_taken taken)
texts [] [] same = refl
texts [] (d ∷ ds) same = absurd (omega (arith, same))
texts (t ∷ taken) [] same = absurd (omega (arith, same))
texts (true ∷ taken) (d ∷ ds) same = texts taken ds (omega (arith, same))
texts (false ∷ taken) (d ∷ ds) same = ap (λ ts. text_with Absent d ∷ ts) (texts taken ds (omega (arith, same)))

any : (taken : List Bool) (ds : List Draft) → length ds ≡ length taken
    → list_any is_some (map absent (not_taken taken ds)) ≡ list_any is_some (map unless_taken taken)
any [] [] same = refl
any [] (d ∷ ds) same = absurd (omega (arith, same))
any (t ∷ taken) [] same = absurd (omega (arith, same))
any (true ∷ taken) (d ∷ ds) same = any taken ds (omega (arith, same))
any (false ∷ taken) (d ∷ ds) same = refl

pub counts : (taken : List Bool) (ds : List Draft) (s : State) (l : Level) (b : Bool) → length ds ≡ length taken
    → tallied (not_taken taken ds) (map absent (not_taken taken ds)) s l b ≡ tallied ds (map unless_taken taken) s l b
counts [] [] s l b same = refl
counts [] (d ∷ ds) s l b same = absurd (omega (arith, same))
counts (t ∷ taken) [] s l b same = absurd (omega (arith, same))
counts (true ∷ taken) (d ∷ ds) s l b same = let rest = counts taken ds s l b (omega (arith, same)) in omega (arith, rest)
counts (false ∷ taken) (d ∷ ds) s l b same = ap (λ n. counts_as (Some Absent) d s l b + n) (counts taken ds s l b (omega (arith, same)))

-- ---- runs

-- the parts of runs with all their results that aren't absent already
abbrev full : List RunParts → List Data → List RunParts
full [] runs = []
full (p ∷ all) [] = []
full (p ∷ all) (run ∷ runs) = record { members = p.members; results = present_count run } ∷ full all runs

full_parts : (all : List RunParts) (taken : List Bool) (runs : List Data) → AreLeftParts all taken runs → ArePartsOf present_count (full all runs) runs
full_parts [] taken [] parts = tt
full_parts [] taken (run ∷ runs) parts = absurd parts
full_parts (p ∷ all) taken [] parts = absurd parts
full_parts (p ∷ all) taken (run ∷ runs) parts = (parts.0, refl, full_parts all (drop (length (present (results_of run))) taken) runs parts.2)

-- the first of the runs; only unmatched results have a draft
front : (p : RunParts) (all : List RunParts) (these_ds bs : List Draft) → count_in_parts p ≡ length these_ds
    → left_texts (p ∷ all) (these_ds ++ bs) (map absent (these_ds ++ bs))
    ≡ text_if (list_any is_some (map absent these_ds)) (parts_text p these_ds (map absent these_ds)) (left_texts all bs (map absent bs))
front p all these_ds bs counted =
    let n = length these_ds in
    let ds = these_ds ++ bs in
    let ss = map absent ds in
    let same : ss ≡ map absent these_ds ++ map absent bs = map-append absent these_ds bs in
    let front_long : n ≡ length (map absent these_ds) = sym (length-map these_ds absent) in
    let first : take n ss ≡ map absent these_ds =
    ap (take n) same ∙ ap (λ m. take m (map absent these_ds ++ map absent bs)) front_long ∙ take-append_seam (map absent these_ds) (map absent bs) in
    let rest : drop n ss ≡ map absent bs =
    ap (drop n) same ∙ ap (λ m. drop m (map absent these_ds ++ map absent bs)) front_long ∙ drop-append_seam (map absent these_ds) (map absent bs) in
    ap (λ m. text_if (list_any is_some (take m ss)) (parts_text p (take m ds) (take m ss)) (left_texts all (drop m ds) (drop m ss))) counted
    ∙ ap (λ es. text_if (list_any is_some (take n ss)) (parts_text p es (take n ss)) (left_texts all (drop n ds) (drop n ss))) (take-append_seam these_ds bs)
    ∙ ap (λ zs. text_if (list_any is_some zs) (parts_text p these_ds zs) (left_texts all (drop n ds) (drop n ss))) first
    ∙ ap (λ es. text_if (list_any is_some (map absent these_ds)) (parts_text p these_ds (map absent these_ds)) (left_texts all es (drop n ss)))
    (drop-append_seam these_ds bs)
    ∙ ap (λ zs. text_if (list_any is_some (map absent these_ds)) (parts_text p these_ds (map absent these_ds)) (left_texts all bs zs)) rest

whole : (all : List RunParts) (taken : List Bool) (runs : List Data) (ds : List Draft) → AreLeftParts all taken runs
    → length ds ≡ length taken → length taken ≡ length (present_results runs)
    → left_texts all (not_taken taken ds) (map absent (not_taken taken ds)) ≡ left_texts (full all runs) ds (map unless_taken taken)
whole [] taken [] ds parts same total = refl
whole [] taken (run ∷ runs) ds parts same total = absurd parts
whole (p ∷ all) taken [] ds parts same total = absurd parts
whole (p ∷ all) taken (run ∷ runs) ds parts same total =
    let n = length (present (results_of run)) in
    let ss = map unless_taken taken in
    let these = take n taken in
    let later = drop n taken in
    let these_ds = not_taken these (take n ds) in
    let bs = not_taken later (drop n ds) in
    let all_long : length taken ≡ n + length (present_results runs) = total ∙ length-append (present (results_of run)) (present_results runs) in
    let these_long : length these ≡ n = length-take-le n taken (omega (arith, all_long)) in
    let ds_long : length (take n ds) ≡ n = length-take-le n ds (omega (arith, all_long, same)) in
    let front_same : length (take n ds) ≡ length these = ds_long ∙ sym these_long in
    let rest_same : length (drop n ds) ≡ length later = omega (arith, length-drop n ds, length-drop n taken, same) in
    let rest_total : length later ≡ length (present_results runs) = omega (arith, length-drop n taken, all_long) in
    let counted : count_in_parts p ≡ length these_ds = ap (λ m. unwrap_or m 0) parts.1 ∙ long these these (take n ds) refl front_same in
    let shown : parts_text p these_ds (map absent these_ds) ≡ run_text (members_view p.members.entries) (Some (texts_of (take n ds) (map unless_taken these))) =
    ap (λ m. run_text (members_view p.members.entries) (option_map (λ _. texts_of these_ds (map absent these_ds)) m)) parts.1
    ∙ ap (λ ts. run_text (members_view p.members.entries) (Some ts)) (texts these (take n ds) front_same) in
    let rest = whole all later runs (drop n ds) parts.2 rest_same rest_total in
    ap (λ es. left_texts (p ∷ all) es (map absent es)) (seam n taken ds same)
    ∙ front p all these_ds bs counted
    ∙ ap (λ b. text_if b (parts_text p these_ds (map absent these_ds)) (left_texts all bs (map absent bs))) (any these (take n ds) front_same)
    ∙ ap (λ t. text_if (list_any is_some (map unless_taken these)) t (left_texts all bs (map absent bs))) shown
    ∙ ap (λ ts. text_if (list_any is_some (map unless_taken these))
    (run_text (members_view p.members.entries) (Some (texts_of (take n ds) (map unless_taken these)))) ts) rest
    ∙ ap (λ zs. text_if (list_any is_some zs) (run_text (members_view p.members.entries) (Some (texts_of (take n ds) zs)))
    (left_texts (full all runs) (drop n ds) (map unless_taken later))) (sym (take-map unless_taken n taken))
    ∙ ap (λ zs. text_if (list_any is_some (take n ss)) (run_text (members_view p.members.entries) (Some (texts_of (take n ds) (take n ss))))
    (left_texts (full all runs) (drop n ds) zs)) (sym (drop-map unless_taken n taken))

-- the JSON of the unmatched results is that of the runs of a merged log
pub left_written : (rs : List Record) (taken : List Bool) (all : List RunParts) (runs : List Data) (ds : List Draft)
    → AllByRecursion IsRun runs → AreLeftParts all taken runs → length rs ≡ length (present_results runs) → length taken ≡ length rs
    → ds ≡ drafts_by (λ _ own. own) unapplied rs (present_results runs) → length ds ≡ length taken
    → left_texts all (not_taken taken ds) (map absent (not_taken taken ds)) ≡ map compact_text (absent_runs rs taken runs)
left_written rs taken all runs ds are parts same_r same_t is same =
    whole all taken runs ds parts same (same_t ∙ same_r)
    ∙ ap (λ es. left_texts (full all runs) es (map unless_taken taken)) is
    ∙ runs_left rs taken (full all runs) runs are (full_parts all taken runs parts) same_r same_t

-- how many there are
pub left_total : (all : List RunParts) (taken : List Bool) (runs : List Data) → AreLeftParts all taken runs → length taken ≡ length (present_results runs)
    → counts_in_parts all ≡ left_count taken
left_total [] [] [] parts total = refl
left_total [] (t ∷ taken) [] parts total = absurd (omega (arith, total))
left_total [] taken (run ∷ runs) parts total = absurd parts
left_total (p ∷ all) taken [] parts total = absurd parts
left_total (p ∷ all) taken (run ∷ runs) parts total =
    let n = length (present (results_of run)) in
    let these = take n taken in
    let later = drop n taken in
    let all_long : length taken ≡ n + length (present_results runs) = total ∙ length-append (present (results_of run)) (present_results runs) in
    let rest_total : length later ≡ length (present_results runs) = omega (arith, length-drop n taken, all_long) in
    ap (λ m. unwrap_or m 0 + counts_in_parts all) parts.1 ∙ ap (λ m. left_count these + m) (left_total all later runs parts.2 rest_total)
    ∙ sym (length-append (not_taken these these) (not_taken later later)) ∙ sym (ap length (seam n taken taken refl))
