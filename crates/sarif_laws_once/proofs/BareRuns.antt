-- In version 2 a merge of runs that are read without regions has the same log, if no entry compares snippets.
use Rattle.std.proofs.Common.{◌≡◌, ◌+◌, ◌++◌, ℕ, zero, suc, Bool, true, not, List, [], ◌∷◌, map, take, drop, length, Option, Some, None, option_map, refl, ap, ap₂, ◌∙◌}
use Rattle.std.specs.Prelude.{slice_get, slice_index_or}
use Rattle.std.specs.List.{range_with_len}
use Rattle.std.proofs.lemmas.List.{drop-map, length-map, take-map}
use Rattle.serde_json.specs.Data.{Data, Items}
use Rattle.serde_json.specs.View.{items_of}
use Rattle.sarif_entries.specs.File.{File}
use Rattle.sarif_evidence.specs.declared.version.MatchingVersion.TheVariants.{Two}
use Rattle.sarif_evidence.specs.Evidence.{state_in}
use Rattle.sarif_match.specs.Partners.{is_taken, partners_of}
use Rattle.sarif_model.specs.declared.kinds.State.{State}
use Rattle.sarif_model.specs.declared.kinds.State.TheVariants.{Absent}
use Rattle.sarif_model.specs.declared.record.Record.{Record}
use Rattle.sarif_model.specs.Members.{elements}
use Rattle.sarif_model.specs.Run.{present, results_of}
use Rattle.sarif_results.specs.Annotated.{annotated_members, on_members, own_suppressions}
use Rattle.sarif_results.specs.Drafts.{Listing}
use Rattle.sarif_runs.specs.Judging.{records_of, run_values}
use Rattle.sarif_runs.specs.Placed.{Placed}
use Rattle.sarif_suppress.specs.Limited.{limited}
use Rattle.sarif_suppress.specs.Suppressing.{unused_of}
use Rattle.sarif_log.specs.LogBy.{limited_records, listing_of, partner_in, runs_by, states_from, states_of, taken_of}
use Rattle.sarif_log.specs.MergedRuns.{absent_runs, annotated_items, bare as members_left, if_any, keep_if, merged_run, merged_runs, own_results, unmatched, with_results, written, written_all}
use Rattle.sarif_laws_once.specs.Snippets.{compares_no_snippet}
use Rattle.sarif_laws_once.proofs.BareFile.{limited_bare, listed_bare, unused_bare}
use Rattle.sarif_known_laws.proofs.BarePartners.{bare_both}
use Rattle.sarif_known_laws.proofs.BareRecords.{bare, placed_bare}
use Rattle.sarif_laws_once.proofs.BareRecords.{all_bare, values_bare}

-- ---- states

found_bare : (bs : List Record) (j : ℕ) → slice_get (map bare bs) j ≡ option_map bare (slice_get bs j)
found_bare [] j = refl
found_bare (b ∷ bs) zero = refl
found_bare (b ∷ bs) (suc j) = found_bare bs j

partner_bare : (bs : List Record) (partner : Option ℕ) → partner_in (map bare bs) partner ≡ option_map bare (partner_in bs partner)
partner_bare bs None = refl
partner_bare bs (Some j) = found_bare bs j

state_bare : (r : Record) (partner : Option Record) → state_in Two (bare r) (option_map bare partner) ≡ state_in Two r partner
state_bare r None = refl
state_bare r (Some b) = refl

each_state : (bs : List Record) (partners : List (Option ℕ)) (n : ℕ) (rs : List Record)
    → states_from Two (map bare bs) partners n (map bare rs) ≡ states_from Two bs partners n rs
each_state bs partners n [] = refl
each_state bs partners n (r ∷ rs) =
    let partner = slice_index_or partners n None in
    ap₂ (λ s ss. s ∷ ss) (ap (state_in Two (bare r)) (partner_bare bs partner) ∙ state_bare r (partner_in bs partner))
    (each_state bs partners (n + 1) rs)

states_bare : (cs bs : List Record) → states_of Two (map bare cs) (map bare bs) ≡ states_of Two cs bs
states_bare cs bs =
    ap (λ partners. states_from Two (map bare bs) partners 0 (map bare cs)) (bare_both cs bs) ∙ each_state bs (partners_of cs bs) 0 cs

taken_bare : (cs bs : List Record) → taken_of Two (map bare cs) (map bare bs) ≡ taken_of Two cs bs
taken_bare cs bs = ap₂ (λ partners n. map (is_taken partners) (range_with_len 0 n)) (bare_both cs bs) (length-map bs bare)

-- ---- what is written

module _ (listed : Listing) (same : (r : Record) (own : List Data) → listed (bare r) own ≡ listed r own) where
  written_bare : (r : Record) (s : State) (d : Data) → written listed (bare r) s d ≡ written listed r s d
  written_bare r s d =
      (λ i. on_members (λ ms. annotated_members r.level s (items_of (same r (elements (own_suppressions ms)) i)) ms) d)

  all_written_bare : (rs : List Record) (ss : List State) (ds : List Data) → written_all listed (map bare rs) ss ds ≡ written_all listed rs ss ds
  all_written_bare [] ss ds = refl
  all_written_bare (r ∷ rs) [] ds = refl
  all_written_bare (r ∷ rs) (s ∷ ss) [] = refl
  all_written_bare (r ∷ rs) (s ∷ ss) (d ∷ ds) = ap₂ (λ e es. e ∷ es) (written_bare r s d) (all_written_bare rs ss ds)

  found_written_bare : (rs : List Record) (ss : List State) (found : Option Items)
      → annotated_items listed (map bare rs) ss found ≡ annotated_items listed rs ss found
  found_written_bare rs ss None = refl
  found_written_bare rs ss (Some ds) = ap (λ es. Some (items_of es)) (all_written_bare rs ss (elements ds))

  run_written_bare : (rs : List Record) (ss : List State) (run : Data) → merged_run listed (map bare rs) ss run ≡ merged_run listed rs ss run
  run_written_bare rs ss run =
      (λ i. on_members (λ ms. with_results (found_written_bare rs ss (own_results ms) i) (members_left ms)) run)

  runs_written_bare : (rs : List Record) (ss : List State) (runs : List Data) → merged_runs listed (map bare rs) ss runs ≡ merged_runs listed rs ss runs
  runs_written_bare rs ss [] = refl
  runs_written_bare rs ss (run ∷ runs) =
      let n = length (results_of run) in
      ap₂ (λ qs more. merged_run listed qs (take n ss) run ∷ merged_runs listed more (drop n ss) runs) (take-map bare n rs) (drop-map bare n rs)
      ∙ ap₂ (λ d ds. d ∷ ds) (run_written_bare (take n rs) (take n ss) run) (runs_written_bare (drop n rs) (drop n ss) runs)

unmatched_bare : (rs : List Record) (taken : List Bool) (ds : List Data) → unmatched (map bare rs) taken ds ≡ unmatched rs taken ds
unmatched_bare [] taken ds = refl
unmatched_bare (r ∷ rs) [] ds = refl
unmatched_bare (r ∷ rs) (t ∷ taken) [] = refl
unmatched_bare (r ∷ rs) (t ∷ taken) (d ∷ ds) = ap (keep_if (not t) (written (λ _ own. own) r Absent d)) (unmatched_bare rs taken ds)

absent_bare : (rs : List Record) (taken : List Bool) (runs : List Data) → absent_runs (map bare rs) taken runs ≡ absent_runs rs taken runs
absent_bare rs taken [] = refl
absent_bare rs taken (run ∷ runs) =
    let ds = present (results_of run) in
    let n = length ds in
    ap₂ (λ qs more. if_any (unmatched qs (take n taken) ds) run (absent_runs more (drop n taken) runs)) (take-map bare n rs) (drop-map bare n rs)
    ∙ ap₂ (λ es more. if_any es run more) (unmatched_bare (take n rs) (take n taken) ds) (absent_bare (drop n rs) (drop n taken) runs)

-- ---- the log

module _ (file : File) (none : compares_no_snippet file ≡ true) where
  pub runs_bare : (now before : List Placed) → runs_by Two file (map placed_bare now) (map placed_bare before) ≡ runs_by Two file now before
  runs_bare now before =
      let cs = records_of now in
      let bs = records_of before in
      ap₂ (λ a b. a ++ b)
      (ap₂ (λ rs runs. merged_runs (listing_of file) (limited file rs) (states_of Two rs (records_of (map placed_bare before))) runs)
      (all_bare now) (values_bare now)
      ∙ ap₂ (λ rs ss. merged_runs (listing_of file) rs ss (run_values now)) (limited_bare file none cs)
      (ap (states_of Two (map bare cs)) (all_bare before) ∙ states_bare cs bs)
      ∙ runs_written_bare (listing_of file) (λ r own. listed_bare file none r own) (limited file cs) (states_of Two cs bs) (run_values now))
      (ap₂ (λ qs runs. absent_runs qs (taken_of Two (records_of (map placed_bare now)) qs) runs) (all_bare before) (values_bare before)
      ∙ ap (λ ts. absent_runs (map bare bs) ts (run_values before))
      (ap (λ rs. taken_of Two rs (map bare bs)) (all_bare now) ∙ taken_bare cs bs)
      ∙ absent_bare bs (taken_of Two cs bs) (run_values before))

  pub unused_of_bare : (now : List Placed) → unused_of file (limited_records file (map placed_bare now)) ≡ unused_of file (limited_records file now)
  unused_of_bare now =
      ap (λ rs. unused_of file (limited file rs)) (all_bare now) ∙ ap (unused_of file) (limited_bare file none (records_of now))
      ∙ unused_bare file none (limited file (records_of now))
