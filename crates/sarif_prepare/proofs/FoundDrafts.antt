-- The drafts that were made of the results of faultless runs.
use Rattle.std.proofs.Common.{◌≡◌, ℕ, zero, suc, ◌+◌, Bool, true, false, ◌&&◌, not, cond, if◌then◌else◌, List, [], ◌∷◌, ◌++◌, map, length, drop, Option, Some, None, Result, Ok, Err, refl, sym, ap, ◌∙◌, arith}
use Rattle.std.proofs.lemmas.List.{drop_more}
use Rattle.std.specs.List.{AllByRecursion, range_with_len, flat_map}
use Rattle.serde_json.specs.Data.{Data, null}
use Rattle.sarif_model.specs.declared.fault.Fault.{Fault}
use Rattle.sarif_model.specs.declared.record.Record.{Record}
use Rattle.sarif_model.specs.Run.{results_of, result_at, is_absent_result, present}
use Rattle.sarif_runs.specs.Record.{record_of}
use Rattle.sarif_entries.specs.File.{File}
use Rattle.sarif_suppress.specs.declared.suppressions.Applied.{Applied}
use Rattle.sarif_model.specs.declared.merge_fault.At.{At}
use Rattle.sarif_model.specs.declared.merge_fault.At.TheVariants.{Single}
use Rattle.sarif_runs.specs.declared.item.Item.{Item}
use Rattle.sarif_runs.specs.declared.item.Item.TheVariants.{Skipped}
use Rattle.sarif_results.specs.declared.outcome.Outcome.{Outcome}
use Rattle.sarif_runs.specs.Judging.{skips, with_record, item_by, item_of, items_of, opening_fault, first_bad, run_faults, faults_of_runs, records_in, records_of, run_values}
use Rattle.sarif_results.specs.Internal.Outcomes.{all_outcomes, draft_beside, outcome_of, outcomes_of}
use Rattle.sarif_runs.specs.Placed.{Placed}
use Rattle.sarif_results.specs.declared.draft.Draft.{Draft}
use Rattle.sarif_results.specs.Drafts.{applied_of, draft_by, drafts_by, members_in, Listing}
use Rattle.sarif_prepare.specs.Internal.Halves.{drafts_in, with_draft}
use Rattle.sarif_log.specs.LogBy.{listing_of}
use Rattle.sarif_results.proofs.JudgedCounts.{no_fault, no_faults_here, no_faults_left, records_of_log, records_of_baseline, kept}

drafts_append : (os ps : List Outcome) → drafts_in (os ++ ps) ≡ drafts_in os ++ drafts_in ps
drafts_append [] ps = refl
drafts_append (o ∷ os) ps = one_more o.draft (drafts_append os ps) where
  one_more : (d : Option Draft) → drafts_in (os ++ ps) ≡ drafts_in os ++ drafts_in ps
      → with_draft d (drafts_in (os ++ ps)) ≡ with_draft d (drafts_in os) ++ drafts_in ps
  one_more None rest = rest
  one_more (Some d) rest = ap (λ ds. d ∷ ds) rest

-- the drafts of results, of a baseline's (true), which has none yet, and of a log's
abbrev drafts_at : File → Bool → List Record → List Data → List Draft
drafts_at file true rs ds = []
drafts_at file false rs ds = drafts_by (listing_of file) (applied_of file) rs ds

one : (file : File) (skip : Bool) (absent : Bool) (found : Result Record Fault) (at : ℕ → At) (n : ℕ) (items : List Item) (ds : List Draft) (d : Data)
    (rest : List Data)
    → first_bad at n ((if skip && absent then Skipped else item_by found) ∷ items) ≡ []
    → (first_bad at (n + 1) items ≡ [] → ds ≡ drafts_at file skip (records_in items) rest)
    → with_draft (draft_beside file skip d (if skip && absent then Skipped else item_by found)) ds
    ≡ drafts_at file skip (with_record (if skip && absent then Skipped else item_by found) (records_in items)) (cond (not (skip && absent)) (d ∷ rest) rest)
one file true true found at n items ds d rest sound more = more sound
one file true false (Ok r) at n items ds d rest sound more = more sound
one file true false (Err fault) at n items ds d rest sound more = cc
one file false absent (Ok r) at n items ds d rest sound more = ap (λ xs. draft_by (listing_of file) (applied_of file) r (members_in d) ∷ xs) (more sound)
one file false absent (Err fault) at n items ds d rest sound more = cc

many : (file : File) (p : Placed) (at : ℕ → At) (n a m : ℕ) → a + m ≡ length (results_of p.run)
    → first_bad at n (map (item_of p) (range_with_len a m)) ≡ []
    → drafts_in (map (outcome_of file p) (range_with_len a m))
    ≡ drafts_at file (skips p.source) (records_in (map (item_of p) (range_with_len a m))) (kept (skips p.source) (drop a (results_of p.run)))
many file p at n a zero all sound = none (skips p.source) where
  none : (skip : Bool) → [] ≡ drafts_at file skip [] (kept skip (drop a (results_of p.run)))
  none true = refl
  none false = refl
many file p at n a (suc m) all sound =
    let rest = drop (a + 1) (results_of p.run) in
    one file (skips p.source) (is_absent_result (result_at p.run a)) (record_of p.options.records p.run a) at n
    (map (item_of p) (range_with_len (a + 1) m))
    (drafts_in (map (outcome_of file p) (range_with_len (a + 1) m))) (result_at p.run a) (kept (skips p.source) rest) sound
    (many file p at (n + 1) (a + 1) m (omega arith))
    ∙ sym (ap (λ ds. drafts_at file (skips p.source) (records_in (map (item_of p) (range_with_len a (suc m)))) (kept (skips p.source) ds))
    (drop_more (results_of p.run) a null (omega arith)))

of_run : (file : File) (p : Placed) → run_faults p ≡ []
    → drafts_in (outcomes_of file p) ≡ drafts_at file (skips p.source) (records_in (items_of p)) (kept (skips p.source) (results_of p.run))
of_run file p sound =
    many file p (Single p.source p.number) 0 0 (length (results_of p.run)) (omega arith)
    (no_fault p.source p.number (opening_fault p) (items_of p) sound)

kept_all : (skip : Bool) → skip ≡ false → (ds : List Data) → kept skip ds ≡ ds
kept_all true is ds = cc
kept_all false is [] = refl
kept_all false is (d ∷ ds) = ap (λ xs. d ∷ xs) (kept_all false is ds)

of_log : (file : File) (p : Placed) → skips p.source ≡ false → run_faults p ≡ []
    → drafts_in (outcomes_of file p) ≡ drafts_by (listing_of file) (applied_of file) (records_in (items_of p)) (results_of p.run)
of_log file p is sound =
    of_run file p sound ∙ ap (λ b. drafts_at file b (records_in (items_of p)) (kept b (results_of p.run))) is
    ∙ ap (drafts_by (listing_of file) (applied_of file) (records_in (items_of p))) (kept_all false refl (results_of p.run))

-- drafts of two lists of results
both : (listed : Listing) (applied : Record → Applied) (rs qs : List Record) (ds es : List Data) → length rs ≡ length ds
    → drafts_by listed applied rs ds ++ drafts_by listed applied qs es ≡ drafts_by listed applied (rs ++ qs) (ds ++ es)
both listed applied [] qs [] es same = refl
both listed applied [] qs (d ∷ ds) es same = absurd (omega (arith, same))
both listed applied (r ∷ rs) qs [] es same = absurd (omega (arith, same))
both listed applied (r ∷ rs) qs (d ∷ ds) es same =
    ap (λ xs. draft_by listed applied r (members_in d) ∷ xs) (both listed applied rs qs ds es (omega (arith, same)))

pub current_drafts : (file : File) (ps : List Placed) → faults_of_runs ps ≡ [] → AllByRecursion (λ p. skips p.source ≡ false) ps
    → drafts_in (all_outcomes file ps) ≡ drafts_by (listing_of file) (applied_of file) (records_of ps) (flat_map results_of (run_values ps))
current_drafts file [] sound logs = refl
current_drafts file (p ∷ ps) sound logs =
    let here = no_faults_here (run_faults p) (faults_of_runs ps) sound in
    let left = no_faults_left (run_faults p) (faults_of_runs ps) sound in
    drafts_append (outcomes_of file p) (all_outcomes file ps)
    ∙ ap (λ xs. xs ++ drafts_in (all_outcomes file ps)) (of_log file p logs.0 here)
    ∙ ap (λ xs. drafts_by (listing_of file) (applied_of file) (records_in (items_of p)) (results_of p.run) ++ xs) (current_drafts file ps left logs.1)
    ∙ both (listing_of file) (applied_of file) (records_in (items_of p)) (records_of ps) (results_of p.run) (flat_map results_of (run_values ps))
    (records_of_log p logs.0 here)

-- the spots of a baseline run without errors
pub baseline_count : (p : Placed) (ps : List Placed) (items : List Item) → skips p.source ≡ true → faults_of_runs (p ∷ ps) ≡ [] → items ≡ items_of p
    → length (records_in items) ≡ length (present (results_of p.run))
baseline_count p ps items skip sound is =
    ap (λ xs. length (records_in xs)) is ∙ records_of_baseline p skip (no_faults_here (run_faults p) (faults_of_runs ps) sound)

pub others_sound : (p : Placed) (ps : List Placed) → faults_of_runs (p ∷ ps) ≡ [] → faults_of_runs ps ≡ []
others_sound p ps sound = no_faults_left (run_faults p) (faults_of_runs ps) sound
