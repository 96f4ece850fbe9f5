-- The records of runs with the entries of the file that admit them.
use Rattle.std.proofs.Common.{◌≡◌, ℕ, zero, suc, ◌<◌, Bool, true, false, ◌&&◌, List, [], ◌∷◌, ◌++◌, map, length, get_or, Result, Ok, Err, arith, refl, ap, ◌∙◌, if◌then◌else◌}
use Rattle.std.specs.List.{range_with_len}
use Rattle.serde_json.specs.Data.{Data}
use Rattle.sarif_model.specs.declared.fault.Fault.{Fault}
use Rattle.sarif_model.specs.declared.record.Record.{Record}
use Rattle.sarif_model.specs.Driver.{tool_name}
use Rattle.sarif_model.specs.Members.{◌>>=◌}
use Rattle.sarif_model.specs.Run.{is_absent_result, result_at, results_of}
use Rattle.sarif_entries.specs.File.{File}
use Rattle.sarif_runs.specs.Descriptor.{descriptor_of, reference_of}
use Rattle.sarif_runs.specs.Head.{head_of}
use Rattle.sarif_runs.specs.Judging.{item_by, item_of, items_of, records_in, records_of, skips, with_record}
use Rattle.sarif_runs.specs.Level.{level_of}
use Rattle.sarif_runs.specs.Place.{place_of}
use Rattle.sarif_runs.specs.Placed.{Placed}
use Rattle.sarif_runs.specs.Record.{record_by, record_in, record_of}
use Rattle.sarif_runs.specs.declared.item.Item.TheVariants.{Skipped}
use Rattle.sarif_runs.specs.declared.run_options.RecordOptions.{RecordOptions}
use Rattle.sarif_suppress.specs.Limited.{all_admitted, all_admitted_after, AreUnadmitted, is_unlimited, limited, limited_after, with_admitted}
use Rattle.sarif_suppress.proofs.LimitedResults.{unlimited_same}
use Rattle.sarif_log.specs.LogBy.{limited_records}

-- ---- results after others

pub limited_after_long : (file : File) (before rs : List Record) → length (limited_after file before rs) ≡ length rs
limited_after_long file before [] = refl
limited_after_long file before (r ∷ rs) = ap suc (limited_after_long file (before ++ r ∷ []) rs)

pub all_admitted_after_long : (file : File) (before rs : List Record) → length (all_admitted_after file before rs) ≡ length rs
all_admitted_after_long file before [] = refl
all_admitted_after_long file before (r ∷ rs) = ap suc (all_admitted_after_long file (before ++ r ∷ []) rs)

pub limited_after_at : (file : File) (before rs : List Record) (i : ℕ) (d e : Record) → i < length rs
    → get_or (limited_after file before rs) i e ≡ with_admitted (get_or rs i d) (get_or (all_admitted_after file before rs) i [])
limited_after_at file before [] i d e within = absurd (omega (arith, within))
limited_after_at file before (r ∷ rs) zero d e within = refl
limited_after_at file before (r ∷ rs) (suc i) d e within = limited_after_at file (before ++ r ∷ []) rs i d e (omega (arith, within))

-- ---- all results

-- as many results as before
pub limited_long : (file : File) (rs : List Record) → length (limited file rs) ≡ length rs
limited_long file rs = limited_after_long file [] rs

pub all_admitted_long : (file : File) (rs : List Record) → length (all_admitted file rs) ≡ length rs
all_admitted_long file rs = all_admitted_after_long file [] rs

-- the result at a place, with the entries that admit it
pub limited_at_place : (file : File) (rs : List Record) (i : ℕ) (d e : Record) → i < length rs
    → get_or (limited file rs) i e ≡ with_admitted (get_or rs i d) (get_or (all_admitted file rs) i [])
limited_at_place file rs i d e within = limited_after_at file [] rs i d e within

-- ---- the records of runs

bind_ok : {A B E : Type 0} (m : Result A E) (f : A → Result B E) (y : B) → (m >>= f) ≡ Ok y → (x : A) × (m ≡ Ok x) × (f x ≡ Ok y)
bind_ok (Ok x) f y is = (x, refl, is)
bind_ok (Err e) f y is = let never : ⊥ = cc in absurd never

admitted_by : (made r : Record) → made.admitted ≡ [] → ◌≡◌ {A = Result Record Fault} (Ok made) (Ok r) → r.admitted ≡ []
admitted_by made r none is = let same : r ≡ made = cc in ap (λ (q : Record). q.admitted) same ∙ none

-- no entry admits a result that was read
pub record_unadmitted : (options : RecordOptions) (run : Data) (seq : ℕ) (r : Record) → record_of options run seq ≡ Ok r → r.admitted ≡ []
unfolding record_of record_in record_by
record_unadmitted options run seq r is =
    let head = bind_ok (head_of run) _ r is in
    let parts = bind_ok _ (record_by options.ignored head.0 (tool_name run)) r head.2 in
    let descriptor = bind_ok (descriptor_of head.0.components (reference_of parts.0)) _ r parts.2 in
    let level = bind_ok (level_of head.0 parts.0) _ r descriptor.2 in
    let place = bind_ok (place_of head.0.artifacts parts.0) _ r level.2 in
    admitted_by _ r refl place.2

with_unadmitted : (skipped : Bool) (found : Result Record Fault) (rs : List Record) → ((r : Record) → found ≡ Ok r → r.admitted ≡ []) → AreUnadmitted rs
    → AreUnadmitted (with_record (if skipped then Skipped else item_by found) rs)
with_unadmitted true found rs here rest = rest
with_unadmitted false (Ok r) rs here rest = (here r refl, rest)
with_unadmitted false (Err fault) rs here rest = rest

run_unadmitted : (p : Placed) (seqs : List ℕ) → AreUnadmitted (records_in (map (item_of p) seqs))
run_unadmitted p [] = tt
run_unadmitted p (seq ∷ seqs) =
    with_unadmitted (skips p.source && is_absent_result (result_at p.run seq)) (record_of p.options.records p.run seq)
    (records_in (map (item_of p) seqs)) (record_unadmitted p.options.records p.run seq) (run_unadmitted p seqs)

both_unadmitted : (rs qs : List Record) → AreUnadmitted rs → AreUnadmitted qs → AreUnadmitted (rs ++ qs)
both_unadmitted [] qs of_rs of_qs = of_qs
both_unadmitted (r ∷ rs) qs of_rs of_qs = (of_rs.0, both_unadmitted rs qs of_rs.1 of_qs)

pub records_unadmitted : (runs : List Placed) → AreUnadmitted (records_of runs)
records_unadmitted [] = tt
records_unadmitted (p ∷ runs) =
    both_unadmitted (records_in (items_of p)) (records_of runs) (run_unadmitted p (range_with_len 0 (length (results_of p.run)))) (records_unadmitted runs)

-- without limits these are the records of the runs
pub unlimited_records : (file : File) (runs : List Placed) → is_unlimited file ≡ true → limited_records file runs ≡ records_of runs
unlimited_records file runs none = unlimited_same file (records_of runs) none (records_unadmitted runs)
