-- No number with a fraction comes in by writing runs.
use Rattle.std.proofs.Common.{◌≡◌, Bool, true, false, not, List, [], ◌∷◌, take, drop, length, cond, codes, refl, ◌∙◌}
use Rattle.std.proofs.lemmas.Bool.{or_parts}
use Rattle.std.specs.List.{list_any}
use Rattle.std.specs.Prelude.{Option, Some, None}
use Rattle.sarif_read.proofs.WholeRuns.{any_element}
use Rattle.serde_json.specs.Data.{Data, string, array, Items, Members, put}
use Rattle.serde_json.specs.Find.{get_member}
use Rattle.serde_json.specs.View.{items_of}
use Rattle.serde_json.specs.Written.{has_float, items_have_float, members_have_float}
use Rattle.sarif_model.specs.declared.kinds.State.{State}
use Rattle.sarif_model.specs.declared.kinds.State.TheVariants.{Absent}
use Rattle.sarif_model.specs.declared.record.Record.{Record}
use Rattle.sarif_model.specs.Level.{level_name}
use Rattle.sarif_model.specs.State.{state_name}
use Rattle.sarif_model.specs.Members.{elements}
use Rattle.sarif_model.specs.Run.{results_of, is_absent_result}
use Rattle.sarif_results.specs.Annotated.{annotated_members, own_suppressions}
use Rattle.sarif_results.specs.Drafts.{Listing}
use Rattle.sarif_log.specs.MergedRuns.{written, written_all, annotated_items, own_results, with_results, bare, merged_run, merged_runs, keep_if, unmatched, with_absent, if_any, absent_runs}
use Rattle.sarif_model.specs.Run.{present}
use Rattle.sarif_results.proofs.WholeListing.{items_whole}
use Rattle.json_parts.proofs.Keeping.{put_whole}
use Rattle.sarif_results.proofs.WholeMembers.{on_members_whole, list_float, found_whole, items_in_whole, array_whole, results_whole}
use Rattle.sarif_log.proofs.WholeRunMembers.{bare_whole, with_results_whole}

both : (d : Data) (ds : List Data) → has_float d ≡ false → list_any has_float ds ≡ false → list_any has_float (d ∷ ds) ≡ false
both d ds of_d of_ds = rw (of_d, of_ds)

-- ---- results and input runs, where no suppression that is listed brings in a fraction

module _ (listed : Listing) (adds_none : (r : Record) (own : List Data) → list_any has_float own ≡ false → list_any has_float (listed r own) ≡ false) where
  members_whole : (r : Record) (state : State) (ms : Members) → members_have_float ms ≡ false
      → members_have_float (annotated_members r.level state (items_of (listed r (elements (own_suppressions ms)))) ms) ≡ false
  members_whole r state ms of_ms =
      let own = elements (own_suppressions ms) in
      let list = items_of (listed r own) in
      let of_own : list_any has_float own ≡ false =
      any_element (own_suppressions ms) ∙ items_in_whole (get_member (codes "suppressions") ms) (found_whole (codes "suppressions") ms of_ms) in
      let of_list : items_have_float list ≡ false = items_whole (listed r own) ∙ adds_none r own of_own in
      put_whole (codes "baselineState") (string (state_name state))
      (put (codes "level") (string (level_name r.level)) (put (codes "suppressions") (array list) ms)) refl
      (put_whole (codes "level") (string (level_name r.level)) (put (codes "suppressions") (array list) ms) refl
      (put_whole (codes "suppressions") (array list) ms of_list of_ms))

  written_whole : (r : Record) (state : State) (d : Data) → has_float d ≡ false → has_float (written listed r state d) ≡ false
  written_whole r state d of_d =
      on_members_whole (λ ms. annotated_members r.level state (items_of (listed r (elements (own_suppressions ms)))) ms) (members_whole r state) d of_d

  written_all_whole : (rs : List Record) (states : List State) (ds : List Data) → list_any has_float ds ≡ false
      → list_any has_float (written_all listed rs states ds) ≡ false
  written_all_whole [] states ds of_ds = of_ds
  written_all_whole (r ∷ rs) [] ds of_ds = of_ds
  written_all_whole (r ∷ rs) (state ∷ states) [] of_ds = refl
  written_all_whole (r ∷ rs) (state ∷ states) (d ∷ ds) of_ds =
      let parts = or_parts (has_float d) (list_any has_float ds) of_ds in
      both (written listed r state d) (written_all listed rs states ds) (written_whole r state d parts.0) (written_all_whole rs states ds parts.1)

  annotated_whole : (rs : List Record) (states : List State) (list : Option Items) → list_float list ≡ false
      → list_float (annotated_items listed rs states list) ≡ false
  annotated_whole rs states None of_list = refl
  annotated_whole rs states (Some ds) of_list =
      items_whole (written_all listed rs states (elements ds)) ∙ written_all_whole rs states (elements ds) (any_element ds ∙ of_list)

  merged_members_whole : (rs : List Record) (states : List State) (ms : Members) → members_have_float ms ≡ false
      → members_have_float (with_results (annotated_items listed rs states (own_results ms)) (bare ms)) ≡ false
  merged_members_whole rs states ms of_ms =
      with_results_whole (annotated_items listed rs states (own_results ms)) (bare ms)
      (annotated_whole rs states (own_results ms) (array_whole (get_member (codes "results") ms) (found_whole (codes "results") ms of_ms)))
      (bare_whole ms of_ms)

  merged_run_whole : (rs : List Record) (states : List State) (run : Data) → has_float run ≡ false → has_float (merged_run listed rs states run) ≡ false
  merged_run_whole rs states run of_run =
      on_members_whole (λ ms. with_results (annotated_items listed rs states (own_results ms)) (bare ms)) (merged_members_whole rs states) run of_run

  pub merged_runs_whole : (rs : List Record) (states : List State) (runs : List Data) → list_any has_float runs ≡ false
      → list_any has_float (merged_runs listed rs states runs) ≡ false
  merged_runs_whole rs states [] of_runs = refl
  merged_runs_whole rs states (run ∷ runs) of_runs =
      let n = length (results_of run) in
      let parts = or_parts (has_float run) (list_any has_float runs) of_runs in
      both (merged_run listed (take n rs) (take n states) run) (merged_runs listed (drop n rs) (drop n states) runs)
      (merged_run_whole (take n rs) (take n states) run parts.0) (merged_runs_whole (drop n rs) (drop n states) runs parts.1)

-- ---- baseline runs

present_at : (there : Bool) (d : Data) (ds : List Data) → has_float d ≡ false → list_any has_float ds ≡ false
    → list_any has_float (cond there (d ∷ ds) ds) ≡ false
present_at true d ds of_d of_ds = both d ds of_d of_ds
present_at false d ds of_d of_ds = of_ds

present_whole : (ds : List Data) → list_any has_float ds ≡ false → list_any has_float (present ds) ≡ false
present_whole [] of_ds = refl
present_whole (d ∷ ds) of_ds =
    let parts = or_parts (has_float d) (list_any has_float ds) of_ds in
    present_at (not (is_absent_result d)) d (present ds) parts.0 (present_whole ds parts.1)

keep_whole : (kept : Bool) (d : Data) (ds : List Data) → has_float d ≡ false → list_any has_float ds ≡ false → list_any has_float (keep_if kept d ds) ≡ false
keep_whole true d ds of_d of_ds = both d ds of_d of_ds
keep_whole false d ds of_d of_ds = of_ds

unmatched_whole : (rs : List Record) (taken : List Bool) (ds : List Data) → list_any has_float ds ≡ false → list_any has_float (unmatched rs taken ds) ≡ false
unmatched_whole [] taken ds of_ds = refl
unmatched_whole (r ∷ rs) [] ds of_ds = refl
unmatched_whole (r ∷ rs) (t ∷ taken) [] of_ds = refl
unmatched_whole (r ∷ rs) (t ∷ taken) (d ∷ ds) of_ds =
    let parts = or_parts (has_float d) (list_any has_float ds) of_ds in
    keep_whole (not t) (written (λ _ own. own) r Absent d) (unmatched rs taken ds)
    (written_whole (λ _ own. own) (λ _ own of_own. of_own) r Absent d parts.0) (unmatched_whole rs taken ds parts.1)

with_absent_whole : (ds : List Data) (run : Data) → list_any has_float ds ≡ false → has_float run ≡ false → has_float (with_absent ds run) ≡ false
with_absent_whole ds run of_ds of_run =
    on_members_whole (λ ms. with_results (Some (items_of ds)) (bare ms))
    (λ ms of_ms. with_results_whole (Some (items_of ds)) (bare ms) (items_whole ds ∙ of_ds) (bare_whole ms of_ms)) run of_run

if_any_whole : (ds : List Data) (run : Data) (runs : List Data) → list_any has_float ds ≡ false → has_float run ≡ false
    → list_any has_float runs ≡ false → list_any has_float (if_any ds run runs) ≡ false
if_any_whole [] run runs of_ds of_run of_runs = of_runs
if_any_whole (d ∷ ds) run runs of_ds of_run of_runs = both (with_absent (d ∷ ds) run) runs (with_absent_whole (d ∷ ds) run of_ds of_run) of_runs

pub absent_runs_whole : (rs : List Record) (taken : List Bool) (runs : List Data) → list_any has_float runs ≡ false
    → list_any has_float (absent_runs rs taken runs) ≡ false
absent_runs_whole rs taken [] of_runs = refl
absent_runs_whole rs taken (run ∷ runs) of_runs =
    let ds = present (results_of run) in
    let n = length ds in
    let parts = or_parts (has_float run) (list_any has_float runs) of_runs in
    if_any_whole (unmatched (take n rs) (take n taken) ds) run (absent_runs (drop n rs) (drop n taken) runs)
    (unmatched_whole (take n rs) (take n taken) ds (present_whole (results_of run) (results_whole run parts.0))) parts.0
    (absent_runs_whole (drop n rs) (drop n taken) runs parts.1)
